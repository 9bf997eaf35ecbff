-- RULES, 'The inversion': the first probability, its float steps in their order, which is the Rust's. Assumes nothing.
use Rattle.std.specs.Prelude.{ℕ, zero, suc, ◌+◌, ◌-◌, min, max, cond, leb, ltb, pos, Float}
use Rattle.std.specs.Float.{binary64}
use Rattle.std.specs.Float.Ieee.{of_int, mul, div}
use Rattle.words.specs.Words.{ratio}

-- a whole number as a float; up to 2^53 nothing is lost (`whole_exact`)
abbrev pub as_float : ℕ → Float
as_float n = of_int binary64 (pos n)

-- i is a factor of top!: multiply by it
unfoldable pub times_in : ℕ → ℕ → Float → Float
times_in top i p = cond (leb i top) (mul binary64 p (as_float i)) p

-- i is a factor of bottom!: divide by it
unfoldable pub over_in : ℕ → ℕ → Float → Float
over_in bottom i p = cond (leb i bottom) (div binary64 p (as_float i)) p

-- the four factorials that i may be a factor of, in this order: the lesser above the line, the lesser below, the greater above, the
-- greater below; nothing is cancelled
unfoldable pub at_factor : ℕ → ℕ → ℕ → ℕ → ℕ → Float → Float
at_factor min_top min_bottom max_top max_bottom i p = over_in max_bottom i (times_in max_top i (over_in min_bottom i (times_in min_top i p)))

-- the factors i + 1, i + 2, .., of which there are n
unfoldable pub factors : ℕ → ℕ → ℕ → ℕ → ℕ → ℕ → Float → Float
factors min_top min_bottom max_top max_bottom zero i p = p
factors min_top min_bottom max_top max_bottom (suc n) i p =
    factors min_top min_bottom max_top max_bottom n (i + 1) (at_factor min_top min_bottom max_top max_bottom (i + 1) p)

-- a!·b! / (c!·d!), from 1: the factors up to the least of the four stand above and below, and are left out
unfoldable pub fraction_of_factorials : ℕ → ℕ → ℕ → ℕ → Float
fraction_of_factorials a b c d =
    let min_all = min (min a b) (min c d) in
    let max_all = max (max a b) (max c d) in
    factors (min a b) (min c d) (max a b) (max c d) (max_all - min_all) min_all (ratio 1 1)

-- the first probability's four numbers, two above the line and two below, by whether k is below n2
unfoldable pub first_probability : ℕ → ℕ → ℕ → ℕ → Float
first_probability N n1 n2 k = cond (ltb k n2) (fraction_of_factorials n2 (N - k) N (n2 - k)) (fraction_of_factorials n1 k N (k - n2))
