-- RULES, 'Geometric', the third way: q squared again and again. Assumes nothing.
use Rattle.std.specs.Prelude.{ℕ, zero, suc, Bool, true, false, Float}
use Rattle.std.specs.Float.{binary64}
use Rattle.std.specs.Float.Ieee.{mul, lt}
use Rattle.words.specs.Words.{ratio}

abbrev pub half : Float
half = ratio 1 2

-- the number of squarings, and what they come to
pub record Squares : Type 0 where
  pub k : ℕ
  pub pi : Float

-- x is what k squarings came to, the Bool says whether x is above 0.5, and n squarings more are allowed
unfoldable pub squaring : ℕ → Bool → ℕ → Float → Squares
squaring zero false k x = record { k = k; pi = x }
squaring zero true k x = record { k = k; pi = x }
squaring (suc n) false k x = record { k = k; pi = x }
squaring (suc n) true k x = squaring n (lt half (mul binary64 x x)) (suc k) (mul binary64 x x)

-- q is squared at least once, until the result is no longer above 0.5, and at most 31 times
unfoldable pub squares : Float → Squares
squares q = squaring 30 (lt half (mul binary64 q q)) 1 (mul binary64 q q)
