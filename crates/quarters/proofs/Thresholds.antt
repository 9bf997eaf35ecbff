-- The thresholds (RULES, 'Means in quarters'): one computed test over all of them, and what it says of each. Assumes nothing.
use mathlib.Core.Path.{◌≡◌, sym, ap, ◌∙◌, subst}
use mathlib.Core.Bool.{Bool, true, ◌&&◌}
use mathlib.Core.List.{List, [], ◌∷◌}
use mathlib.Core.Logic.{◌⊎◌, inl, inr}
use Prim.Native.Nat.{ℕ, zero, suc, ◌+◌, ◌*◌, ◌^◌, ◌≤◌, ◌<◌}
use native.Mathlib.Nat.{eq-or-lt_of_le, le_of_suc-le-suc}
use native.Mathlib.Omega.{arith}
use lib.Dec.{T, leb, ltb, leb→le, ltb→lt}
use lib.Ieee.Fits.{and_l, and_r}
use lib.ListN.{get_or}
use Rattle.quarters.specs.Quarters.{bottom, top, too_low, too_high, RoundedDown, E, most_quarters}

-- ---- the test

-- whether e is 2^52 times the jth power of the sum through the nth, rounded down
unfoldable is_rounded_down : ℕ → ℕ → ℕ → Bool
is_rounded_down n j e = leb (e * bottom n ^ j) (2 ^ 52 * top n ^ j) && ltb (2 ^ 52 * top n ^ j) ((e + 1) * bottom n ^ j)

-- whether both sums give E(j), and E(j) / 2^52 lies between 2^-18 and 1
unfoldable passes : ℕ → Bool
passes j = is_rounded_down too_low j (E j) && (is_rounded_down too_high j (E j) && (leb (2 ^ 34) (E j) && leb (E j) (2 ^ 52)))

unfoldable all_pass : ℕ → Bool
all_pass zero = true
all_pass (suc j) = passes (suc j) && all_pass j

all_pass_lem : T (all_pass most_quarters)
unfolding all_pass passes is_rounded_down E top bottom
all_pass_lem = tt

-- ---- what it says of each

rounded_down : (n j e : ℕ) → T (is_rounded_down n j e) → RoundedDown n j e
unfolding is_rounded_down
rounded_down n j e t =
    let x : Bool = leb (e * bottom n ^ j) (2 ^ 52 * top n ^ j) in
    let y : Bool = ltb (2 ^ 52 * top n ^ j) ((e + 1) * bottom n ^ j) in
    record {
      reached = leb→le (e * bottom n ^ j) (2 ^ 52 * top n ^ j) (and_l x y t);
      next = ltb→lt (2 ^ 52 * top n ^ j) ((e + 1) * bottom n ^ j) (and_r x y t);
    }

each_passes : (m j : ℕ) → T (all_pass m) → 1 ≤ j → j ≤ m → T (passes j)
unfolding all_pass
each_passes zero j t l h = absurd (omega arith)
each_passes (suc m) j t l h = go (eq-or-lt_of_le h) (each_passes m j (and_r (passes (suc m)) (all_pass m) t) l)
  where
    go : (j ≡ suc m) ⊎ (j < suc m) → (j ≤ m → T (passes j)) → T (passes j)
    go (inl e) rest = subst (λ (i : ℕ). T (passes i)) (sym e) (and_l (passes (suc m)) (all_pass m) t)
    go (inr k) rest = rest (le_of_suc-le-suc k)

module _ (j : ℕ) (l : 1 ≤ j) (h : j ≤ most_quarters) where
  passed : T (passes j)
  passed = each_passes most_quarters j all_pass_lem l h

  pub by_low : RoundedDown too_low j (E j)
  unfolding passes
  by_low = rounded_down too_low j (E j) (and_l (is_rounded_down too_low j (E j)) _ passed)

  others : T (is_rounded_down too_high j (E j) && (leb (2 ^ 34) (E j) && leb (E j) (2 ^ 52)))
  unfolding passes
  others = and_r (is_rounded_down too_low j (E j)) _ passed

  pub by_high : RoundedDown too_high j (E j)
  by_high = rounded_down too_high j (E j) (and_l (is_rounded_down too_high j (E j)) _ others)

  sized : T (leb (2 ^ 34) (E j) && leb (E j) (2 ^ 52))
  sized = and_r (is_rounded_down too_high j (E j)) _ others

  -- so E(j) / 2^52 is at least 2^-18 and at most 1
  pub least : 2 ^ 34 ≤ E j
  least = leb→le (2 ^ 34) (E j) (and_l (leb (2 ^ 34) (E j)) (leb (E j) (2 ^ 52)) sized)

  pub most : E j ≤ 2 ^ 52
  most = leb→le (E j) (2 ^ 52) (and_r (leb (2 ^ 34) (E j)) (leb (E j) (2 ^ 52)) sized)

-- the sum that is too low is below the one that is too high
pub low_below_high : top too_low * bottom too_high < top too_high * bottom too_low
unfolding top bottom
low_below_high = ltb→lt (top too_low * bottom too_high) (top too_high * bottom too_low) tt

-- ---- lists that the code has

-- f(j), f(j + 1) and so on, m of them
unfoldable pub list_from : (ℕ → ℕ) → ℕ → ℕ → List ℕ
list_from f j zero = []
list_from f j (suc m) = f j ∷ list_from f (suc j) m

pub at_place : (f : ℕ → ℕ) (m j i : ℕ) → i < m → get_or (list_from f j m) i 0 ≡ f (j + i)
unfolding list_from
at_place f zero j i h = absurd (omega arith)
at_place f (suc m) j zero h = let e : j ≡ j + 0 = omega arith in ap f e
at_place f (suc m) j (suc i) h = let e : suc j + i ≡ j + suc i = omega arith in at_place f m (suc j) i (omega arith) ∙ ap f e
