-- What the Rust asks where RULES, 'The inversion', asks for refusals 6 and 2, (k+1)(n1+1) and 10(N+2), and a first probability that is 0 or not
-- finite: tests of floats, each operation rounded once. No contract speaks of them; the laws `taken_agrees` and `first_agrees` compare. Assumes nothing.
use Rattle.std.specs.Prelude.{ℕ, ◌+◌, ◌-◌, ◌*◌, ◌/◌, Bool, true, false, not, ◌||◌, cond, Float}
use Rattle.std.specs.Float.{nan, inf, fin, binary64}
use Rattle.std.specs.Float.Ieee.{up, down, round, sub, mul, div, lt, le}
use Rattle.std.specs.Float.Ieee.Scale.{finite}
use Rattle.words.specs.Words.{ratio}
use Rattle.first_probability.specs.First.{as_float}

-- f64::floor: the greatest whole number that is not above
unfoldable pub floor : Float → Float
floor nan = nan
floor (inf s) = inf s
floor (fin false m e) = round binary64 false (m * up e / down e) 1
floor (fin true m e) = round binary64 true ((m * up e + (down e - 1)) / down e) 1

-- f64::max, of two that are no NaN
unfoldable pub larger : Float → Float → Float
larger x y = cond (lt x y) y x

-- M, the mode: (k + 1)(n1 + 1) / (N + 2), rounded down
unfoldable pub rust_mode : ℕ → ℕ → ℕ → Float
rust_mode N n1 k = floor (div binary64 (mul binary64 (as_float (k + 1)) (as_float (n1 + 1))) (as_float (N + 2)))

-- whether M, less what k has above n2, is below 10
unfoldable pub rust_takes : ℕ → ℕ → ℕ → ℕ → Bool
rust_takes N n1 n2 k = lt (sub binary64 (rust_mode N n1 k) (larger (ratio 0 1) (sub binary64 (as_float k) (as_float n2)))) (ratio 10 1)

-- of the first probability: at most 0, or not finite
unfoldable pub rust_refuses : Float → Bool
rust_refuses p = le p (ratio 0 1) || not (finite p)
