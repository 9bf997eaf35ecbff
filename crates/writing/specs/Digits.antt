-- RULES, 'Text': whole numbers, in ASCII, as they are written, without leading zeros. Assumes nothing.
use Rattle.std.specs.Prelude.{ℕ, zero, suc, ◌+◌, ◌/◌, ◌%◌, cond, List, [], ◌∷◌, ◌++◌, ltb}

-- the decimal digits of a number below 10^k, the highest first, and no 0 before it
unfoldable pub decimal_of : ℕ → ℕ → List ℕ
decimal_of zero n = []
decimal_of (suc k) n = cond (ltb n 10) [] (decimal_of k (n / 10)) ++ ((48 + n % 10) ∷ [])

-- a number of 64 bits is below 10^20
unfoldable pub decimal : ℕ → List ℕ
decimal n = decimal_of 20 n
