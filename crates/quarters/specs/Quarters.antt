-- RULES, 'Means in quarters': the thresholds of the means j / 4, and the draw by them. Assumes nothing.
use Rattle.std.specs.Prelude.{ℕ, zero, suc, ◌+◌, ◌-◌, ◌*◌, ◌/◌, ◌%◌, ◌^◌, ◌≤◌, ◌<◌, Bool, not, ◌&&◌, cond, List, [], ◌∷◌, eqb, leb, Float}
use Rattle.words.specs.Words.{ratio}
use Rattle.words.specs.Rule.{reading}
use Rattle.words.specs.Refusals.{Condition, ◌on◌}
use Rattle.words.specs.Draw.{Drawing}
use Rattle.poisson.specs.Poisson.{knuth_rule}

-- ---- the alternating sum for e^(-1/4): 1 - 1/4 + 1/(2!·4^2) - 1/(3!·4^3) + ..

-- through the nth power it is the fraction top n / bottom n; its denominator is n!·4^n
unfoldable pub bottom : ℕ → ℕ
bottom zero = 1
bottom (suc n) = 4 * suc n * bottom n

-- the sum so far, brought to the new denominator, over which the new term is 1: taken away where its power is odd, added where it is even
unfoldable pub top : ℕ → ℕ
top zero = 1
top (suc n) = cond (eqb (n % 2) 0) (4 * suc n * top n - 1) (4 * suc n * top n + 1)

-- through the first of these powers it is too low, through the second too high
abbrev pub too_low : ℕ
too_low = 19

abbrev pub too_high : ℕ
too_high = 20

-- ---- the thresholds

-- e is 2^52 times the jth power of the sum through the nth, rounded down
pub record RoundedDown (n j e : ℕ) : Type 0 where
  pub reached : e * bottom n ^ j ≤ 2 ^ 52 * top n ^ j
  pub next : 2 ^ 52 * top n ^ j < (e + 1) * bottom n ^ j

-- E(j), from the sum that is too low
unfoldable pub E : ℕ → ℕ
E j = 2 ^ 52 * top too_low ^ j / bottom too_low ^ j

-- a mean in quarters: 1 to 47 of them
abbrev pub most_quarters : ℕ
most_quarters = 47

unfoldable pub is_mean : ℕ → Bool
is_mean j = leb 1 j && leb j most_quarters

-- The statement: E(j) is 2^52 times e^(-j/4), rounded down. Both sums give it, the one that is too low and the one that is too high, and they are
-- apart; so does every later sum, and e^(-1/4) is what these tend to.
pub record Thresholds : Type 0 where
  pub low : (j : ℕ) → 1 ≤ j → j ≤ most_quarters → RoundedDown too_low j (E j)
  pub high : (j : ℕ) → 1 ≤ j → j ≤ most_quarters → RoundedDown too_high j (E j)
  pub apart : top too_low * bottom too_high < top too_high * bottom too_low
  pub later : (n : ℕ) → too_low ≤ n → (j : ℕ) → 1 ≤ j → j ≤ most_quarters → RoundedDown n j (E j)

-- ---- the draw

-- E(j) over 2^52; nothing is rounded away (`threshold_exact`)
unfoldable pub threshold_of : ℕ → Float
threshold_of j = ratio (E j) (2 ^ 52)

-- the parameter's refusal: MeanOutside
abbrev pub mean_refusals : ℕ → List Condition
mean_refusals j = 18 on not (is_mean j) ∷ []

-- Knuth's method with the threshold of the mean j / 4
unfoldable pub quarters : ℕ → Drawing ℕ
quarters j = record { refusals = mean_refusals j; reads = reading (knuth_rule (threshold_of j)) }
