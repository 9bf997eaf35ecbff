-- What inner functions and laws speak of: no entry point's contract and no demand rests on it. Assumes nothing.
use Rattle.std.specs.Prelude.{ℕ, Bool, false, ◌||◌, List, [], ◌∷◌, Option, eqb, slice_get}
use Rattle.words.specs.declared.Draw.{Draw}
use Rattle.words.specs.Draw.{shorts}

-- what stands at place i of the tape
abbrev pub word_at : List ℕ → ℕ → Option ℕ
word_at ws i = slice_get ws i

-- the struct of a draw, by its count and the words used
abbrev pub drew : ℕ → ℕ → Draw
drew c u = record { count = c; used = u }

-- whether a number is on a list
unfoldable pub is_on : ℕ → List ℕ → Bool
is_on n [] = false
is_on n (m ∷ ms) = eqb n m || is_on n ms

-- whether a refusal is one by which a reading may run out of words
abbrev pub is_short : ℕ → Bool
is_short n = is_on n shorts
