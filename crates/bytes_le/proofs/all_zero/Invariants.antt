-- Whether the bytes still to come are all 0 is what is asked.
use Rattle.std.proofs.Common.{◌≡◌, drop}
use Rattle.bytes_le.specs.Zeros.{all_zero}
use Rattle.bytes_le.proofs.all_zero.Given as goal

abbrev pub invariant-loop-byte : goal.invariant-loop-byte
invariant-loop-byte l = all_zero (drop l.byte-index l.byte-items) ≡ all_zero (drop l.from l.bytes)
