-- RULES, 'The book': zero bytes, those after the end and those that a strike leaves. Assumes nothing.
use Rattle.std.specs.Prelude.{ℕ, ◌-◌, Bool, true, ◌&&◌, List, [], ◌∷◌, ◌++◌, eqb, take, drop, replicate}

-- every byte is 0
unfoldable pub all_zero : List ℕ → Bool
all_zero [] = true
all_zero (x ∷ xs) = eqb x 0 && all_zero xs

-- the bytes from i up to j become 0, and no other changes
unfoldable pub wiped : ℕ → ℕ → List ℕ → List ℕ
wiped i j l = take i l ++ replicate (j - i) 0 ++ drop j l
