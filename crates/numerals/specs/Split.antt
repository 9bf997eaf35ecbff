-- RULES, 'Lines of pull': text parted by a byte into what stands before the first such byte and what stands after it. Once for every
-- byte, a space or a point. Assumes nothing.
use Rattle.std.specs.Prelude.{ℕ, suc, Bool, List, eqb, ltb, length, take, drop}
use Rattle.std.specs.List.{position_or_len}

-- the place of the first s, or the length where there is none
unfoldable pub index_of : ℕ → List ℕ → ℕ
index_of s l = position_or_len (λ x. eqb x s) l

-- the bytes before the first s, or all where there is none
unfoldable pub up_to : ℕ → List ℕ → List ℕ
up_to s l = take (index_of s l) l

-- the bytes after the first s, or none where there is none
unfoldable pub past : ℕ → List ℕ → List ℕ
past s l = drop (suc (index_of s l)) l

-- whether there is one
unfoldable pub has : ℕ → List ℕ → Bool
has s l = ltb (index_of s l) (length l)
