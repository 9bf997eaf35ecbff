-- The bytes written and those of what is left are the whole number's.
use Rattle.std.proofs.Common.{◌≡◌, ◌-◌, ◌++◌, take}
use Rattle.bytes_le.specs.LittleEndian.{bytes_of}
use Rattle.bytes_le.proofs.write_le.Given as goal

abbrev pub invariant-loop-byte : goal.invariant-loop-byte
invariant-loop-byte l = take l.byte-index l.byte-items ++ bytes_of (l.width - l.byte-index) l.left ≡ bytes_of l.width l.number
