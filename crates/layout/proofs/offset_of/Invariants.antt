-- `offset_of`'s loop: each turn goes past one entry more. Assumes nothing.
use Rattle.std.proofs.Common.{◌≡◌}
use Rattle.layout.specs.Sound.{offset}
use Rattle.layout.proofs.offset_of.Given as goal

abbrev pub invariant-loop : goal.invariant-loop
invariant-loop l = l.at ≡ offset l.book l.counter
