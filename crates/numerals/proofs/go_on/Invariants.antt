-- What is left to read from here gives the whole.
use Rattle.std.proofs.Common.{◌≡◌, ◌≤◌, drop}
use Rattle.numerals.specs.Digits.{continued}
use Rattle.numerals.proofs.go_on.Given as goal

abbrev pub invariant-loop-byte : goal.invariant-loop-byte
invariant-loop-byte l = (l.value ≤ l.most) × (continued l.base l.value l.most (drop l.byte-index l.text) ≡ continued l.base l.start l.most l.text)
