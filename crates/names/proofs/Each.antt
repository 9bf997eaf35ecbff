-- Each refusal has a row in the table, with letters in it: of a refusal to come that has none the test fails. Assumes nothing.
use Prim.Native.Nat.{◌<◌}
use lib.Dec.{ltb, ltb→lt}
use lib.ListN.{length}
use Rattle.words.specs.declared.Refusal.{Refusal}
use Rattle.words.specs.Paper.{number_of}
use Rattle.words.proofs.OneAnswer.{of_each}
use Rattle.names.specs.Names.{name_of}

pub each_named : (x : Refusal) → 0 < length (name_of (number_of x))
unfolding name_of
each_named x = ltb→lt 0 (length (name_of (number_of x))) (of_each (λ y. ltb 0 (length (name_of (number_of y)))) tt x)
