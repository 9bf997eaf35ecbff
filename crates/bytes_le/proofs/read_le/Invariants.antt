-- The bytes still to come are the lowest ones, and those before have spelled what the number holds.
use Rattle.std.proofs.Common.{◌≡◌, ◌≤◌, ◌+◌, ◌-◌, length, take, drop}
use Rattle.bytes_le.specs.LittleEndian.{spelled}
use Rattle.bytes_le.proofs.read_le.Given as goal

abbrev pub invariant-loop-byte : goal.invariant-loop-byte
invariant-loop-byte l =
    (length l.byte-iterator.iter.rest.now ≤ l.width)
    × (l.byte-iterator.iter.rest.now ≡ take (length l.byte-iterator.iter.rest.now) (drop l.at l.bytes))
    × (l.number ≡ spelled (l.width - length l.byte-iterator.iter.rest.now) (drop (l.at + length l.byte-iterator.iter.rest.now) l.bytes))
