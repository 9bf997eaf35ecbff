-- RULES, 'Poisson': Knuth's method, with the threshold handed in. Assumes nothing.
use Rattle.std.specs.Prelude.{ℕ, ◌+◌, ◌^◌, Bool, not, ◌&&◌, cond, List, [], ◌∷◌, Float}
use Rattle.std.specs.Float.{binary64}
use Rattle.std.specs.Float.Ieee.{mul, lt, le}
use Rattle.words.specs.Words.{ratio, fraction_of}
use Rattle.words.specs.Rule.{Step, done, more, Rule, reading}
use Rattle.words.specs.Refusals.{Condition, ◌on◌}
use Rattle.words.specs.Draw.{Drawing}

-- before the first fraction; then the product p after n multiplications
pub data Product : Type 0 where
  none : Product
  product : Float → ℕ → Product

-- while the product is above T it wants another fraction; the count is the number of multiplications
abbrev pub while_above : Float → Float → ℕ → Step Product ℕ
while_above T p n = cond (lt T p) (more (product p n)) (done n)

-- the product starts as the first fraction, and is multiplied by each next one
abbrev pub multiply : Float → Product → ℕ → Step Product ℕ
multiply T none w = while_above T (fraction_of w) 0
multiply T (product p n) w = while_above T (mul binary64 p (fraction_of w)) (n + 1)

abbrev pub knuth_rule : Float → Rule Product ℕ
knuth_rule T = record { start = more none; step = multiply T; short = λ s. 10 }

-- 2^-18 ≤ T ≤ 1; a NaN is not
unfoldable pub in_range : Float → Bool
in_range T = le (ratio 1 (2 ^ 18)) T && le T (ratio 1 1)

-- the parameter's refusal: ThresholdOutside
abbrev pub threshold_refusals : Float → List Condition
threshold_refusals T = 7 on not (in_range T) ∷ []

-- the draw with the threshold T
unfoldable pub poisson : Float → Drawing ℕ
poisson T = record { refusals = threshold_refusals T; reads = reading (knuth_rule T) }
