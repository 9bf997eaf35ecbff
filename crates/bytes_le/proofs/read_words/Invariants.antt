-- What is left to read from here leaves all the words.
use Rattle.std.proofs.Common.{◌≡◌, ◌+◌, ◌-◌, ◌*◌, drop}
use Rattle.std.proofs.lemmas.List.Edits.{sets}
use Rattle.bytes_le.specs.LittleEndian.{words_from}
use Rattle.bytes_le.proofs.read_words.Given as goal

abbrev pub invariant-loop-i : goal.invariant-loop-i
invariant-loop-i l = sets l.tape (l.at + l.i) (words_from (l.k - l.i) (drop (8 * l.i) l.bytes)) ≡ sets l.initial.tape l.at (words_from l.k l.bytes)
