-- RULES, 'Words and fractions': the tape's limit, and the fraction of a word. Assumes nothing.
use Rattle.std.specs.Prelude.{ℕ, ◌/◌, ◌^◌, Bool, false, List, ltb, length, Float}
use Rattle.std.specs.Float.{binary64}
use Rattle.std.specs.Float.Ieee.{round}

-- a tape has at most this many words
abbrev pub most_words : ℕ
most_words = 1048576

-- refusal 1's condition, by the number of words lent
abbrev pub is_too_long : ℕ → Bool
is_too_long n = ltb most_words n

unfoldable pub too_long : List ℕ → Bool
too_long ws = is_too_long (length ws)

-- a / b as a binary64, rounded once
abbrev pub ratio : ℕ → ℕ → Float
ratio a b = round binary64 false a b

-- floor(w / 2048) / 2^53; of a 64-bit word nothing is rounded away (`fraction_exact`)
unfoldable pub fraction_of : ℕ → Float
fraction_of w = ratio (w / 2048) (2 ^ 53)
