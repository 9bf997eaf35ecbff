-- RULES, 'Lines of pull': whole numbers as text, in ASCII, as they are read, with leading zeros or without. Assumes nothing.
use Rattle.std.specs.Prelude.{ℕ, ◌+◌, ◌-◌, ◌*◌, Bool, true, false, cond, ◌&&◌, List, [], ◌∷◌, leb, ltb, Option, None, Some}

-- whether a byte lies between two others
abbrev pub is_within : ℕ → ℕ → ℕ → Bool
is_within a b x = leb a x && leb x b

-- what a digit stands for: 0 to 9, a to f and A to F; 16 stands for no digit
unfoldable pub digit_of : ℕ → ℕ
digit_of x = cond (is_within 48 57 x) (x - 48) (cond (is_within 97 102 x) (x - 87) (cond (is_within 65 70 x) (x - 55) 16))

-- whether every byte is a digit of the base
unfoldable pub are_digits : ℕ → List ℕ → Bool
are_digits b [] = true
are_digits b (x ∷ xs) = ltb (digit_of x) b && are_digits b xs

-- the number that digits spell where they go on from the digits of v
unfoldable pub spells : ℕ → ℕ → List ℕ → ℕ
spells b v [] = v
spells b v (x ∷ xs) = spells b (b * v + digit_of x) xs

-- digits that go on from those of v, the whole number at most m
unfoldable pub continued : ℕ → ℕ → ℕ → List ℕ → Option ℕ
continued b v m l = cond (are_digits b l && leb (spells b v l) m) (Some (spells b v l)) None

abbrev pub is_empty : List ℕ → Bool
is_empty [] = true
is_empty (x ∷ xs) = false

-- a number: one digit or more, leading zeros allowed, at most m
unfoldable pub number : ℕ → ℕ → List ℕ → Option ℕ
number b m l = cond (is_empty l) None (continued b 0 m l)
