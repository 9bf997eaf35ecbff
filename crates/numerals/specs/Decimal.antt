-- RULES, 'Lines of pull': a float as text is a decimal, which stands for the nearest binary64, or the 64 bits themselves. Assumes nothing.
use Rattle.std.specs.Prelude.{ℕ, ◌-◌, ◌^◌, Bool, false, cond, not, ◌&&◌, ◌||◌, List, ◌++◌, eqb, leb, ltb, length, get_or, drop, Option, None, Some}
use Rattle.std.specs.Float.{binary64}
use Rattle.std.specs.Float.Ieee.{round, to_bits}
use Rattle.numerals.specs.Split.{up_to, past, has}
use Rattle.numerals.specs.Digits.{are_digits, spells, is_empty, number}

-- the byte of a point
abbrev pub point : ℕ
point = 46

-- one digit or more
abbrev pub is_whole : List ℕ → Bool
is_whole l = not (is_empty l) && are_digits 10 l

-- a decimal is digits, or digits, a point and digits
unfoldable pub is_decimal : List ℕ → Bool
is_decimal l = is_whole (up_to point l) && (not (has point l) || is_whole (past point l))

-- all its digits as one whole number
unfoldable pub whole_of : List ℕ → ℕ
whole_of l = spells 10 0 (up_to point l ++ past point l)

-- how many of them stand after the point
unfoldable pub places_of : List ℕ → ℕ
places_of l = length (past point l)

-- at most 15 digits after the point, and all its digits as one whole number below 10^15
unfoldable pub is_short : List ℕ → Bool
is_short l = leb (places_of l) 15 && ltb (whole_of l) (10 ^ 15)

-- the bits of the binary64 nearest to a / b
unfoldable pub nearest_bits : ℕ → ℕ → ℕ
nearest_bits a b = to_bits binary64 (round binary64 false a b)

-- the digits as a whole number, divided by a power of ten
unfoldable pub decimal_bits : List ℕ → Option ℕ
decimal_bits l = cond (is_decimal l && is_short l) (Some (nearest_bits (whole_of l) (10 ^ places_of l))) None

-- `0x`, and 16 bytes
unfoldable pub is_hexadecimal : List ℕ → Bool
is_hexadecimal l = eqb (length l) 18 && (eqb (get_or l 0 0) 48 && eqb (get_or l 1 0) 120)  -- "0x"

-- 16 hexadecimal digits are the bits themselves
unfoldable pub float_bits : List ℕ → Option ℕ
float_bits l = cond (is_hexadecimal l) (number 16 (2 ^ 64 - 1) (drop 2 l)) (decimal_bits l)
