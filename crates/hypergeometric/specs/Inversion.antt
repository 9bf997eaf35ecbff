-- RULES, 'The inversion': the draw, step for step. Assumes nothing.
use Rattle.std.specs.Prelude.{ℕ, zero, suc, ◌+◌, ◌-◌, ◌*◌, min, Bool, true, false, Float}
use Rattle.std.specs.Float.{binary64}
use Rattle.std.specs.Float.Ieee.{sub, mul, div, lt}
use Rattle.first_probability.specs.First.{as_float}

-- the two whole numbers of a step from x to x + 1
abbrev pub up_by : ℕ → ℕ → ℕ → ℕ
up_by n1 k x = (n1 - x) * (k - x)

abbrev pub down_by : ℕ → ℕ → ℕ → ℕ
down_by n2 k x = (x + 1) * (n2 - k + 1 + x)

-- the probability of x + 1 from that of x: a product, then a quotient
unfoldable pub next_p : ℕ → ℕ → ℕ → ℕ → Float → Float
next_p n1 n2 k x p = div binary64 (mul binary64 p (as_float (up_by n1 k x))) (as_float (down_by n2 k x))

-- The bound is r steps ahead of x, and the Bool says whether u is above p. Where both leave a step to take, u loses p, p becomes the next
-- one, and x moves on by 1. (The step is an argument, since the Rust walks like this with another one.)
unfoldable pub walk : (ℕ → Float → Float) → ℕ → Bool → ℕ → Float → Float → ℕ
walk next zero above x u p = x
walk next (suc r) false x u p = x
walk next (suc r) true x u p = walk next r (lt (next x p) (sub binary64 u p)) (x + 1) (sub binary64 u p) (next x p)

-- x from 0 on, with the bound min(n1, k), by the first probability p and the fraction u
unfoldable pub inverted : ℕ → ℕ → ℕ → Float → Float → ℕ
inverted n1 n2 k p u = walk (next_p n1 n2 k) (min n1 k) (lt p u) 0 u p
