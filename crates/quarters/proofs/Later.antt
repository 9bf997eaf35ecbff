-- Every later sum gives the same thresholds (RULES, 'Means in quarters'): through any power from the 19th on the sum lies from the one that is too
-- low to the one that is too high. So the statement holds. Assumes nothing.
use mathlib.Core.Path.{◌≡◌, refl, sym, ap, ◌∙◌, subst}
use mathlib.Core.Bool.{Bool, cond}
use mathlib.Core.Logic.{◌⊎◌, inl, inr}
use Prim.Native.Nat.{ℕ, zero, suc, ◌+◌, ◌-◌, ◌*◌, ◌%◌, ◌^◌, ◌≤◌, ◌<◌}
use native.Mathlib.Nat.{mul_comm, mul_left_comm, mul-suc, mul_assoc, mul-pos, pow-le-pow_left, one-le-pow}
use native.Mathlib.Nat.{le_refl, le_trans, lt_of_le_of_lt, eq-or-lt_of_le, mul-le-mul_left, mul-le-mul_right, mul-lt-mul_of_pos_left, le_of_mul-le-mul_left, lt_of_mul-lt-mul_left}
use native.Mathlib.Omega.{arith}
use borrow.Author.Tests.{eq-eqb, ne_eqb}
use lib.Dec.{lit<}
use Rattle.std.proofs.lemmas.Nat.{mul-pow}
use Rattle.quarters.specs.Quarters.{bottom, top, too_low, too_high, RoundedDown, E, most_quarters, Thresholds}
use Rattle.quarters.proofs.Thresholds.{by_low, by_high, low_below_high}

-- the sum through the mth power is at most the one through the nth
abbrev pub AtMost : ℕ → ℕ → Type 0
AtMost m n = top m * bottom n ≤ top n * bottom m

-- ---- fractions

-- a / b up to c / d, and c / d up to e / f
module _ (a b c d e f : ℕ) (pos : 0 < d) (l : a * d ≤ c * b) where
  first_raised : d * (a * f) ≤ b * (c * f)
  first_raised =
      let m : f * (a * d) ≤ f * (c * b) = mul-le-mul_left f l in
      let x : f * (a * d) ≡ d * (a * f) = simp (mul_comm, mul_left_comm) in
      let y : f * (c * b) ≡ b * (c * f) = simp (mul_comm, mul_left_comm) in
      omega arith

  chained : c * f ≤ e * d → a * f ≤ e * b
  chained h =
      let m : b * (c * f) ≤ b * (e * d) = mul-le-mul_left b h in
      let x : b * (e * d) ≡ d * (e * b) = simp (mul_comm, mul_left_comm) in
      le_of_mul-le-mul_left (le_trans first_raised (rw (← x) m)) pos

  chained_below : 0 < b → c * f < e * d → a * f < e * b
  chained_below q h =
      let m : b * (c * f) < b * (e * d) = mul-lt-mul_of_pos_left h q in
      let x : b * (e * d) ≡ d * (e * b) = simp (mul_comm, mul_left_comm) in
      lt_of_mul-lt-mul_left d (lt_of_le_of_lt first_raised (rw (← x) m))

-- ---- one power more, and two

module _ (a b x : ℕ) where
  over_one : x * a * b ≡ a * (x * b)
  over_one = mul_assoc x a b ∙ mul_left_comm x a b

  over_two : (y : ℕ) → y * (x * a) * b ≡ a * (y * (x * b))
  over_two y = mul_assoc y (x * a) b ∙ ap (λ (z : ℕ). y * z) over_one ∙ mul_left_comm y a (x * b)

  one_added : a * (x * b) ≤ (x * a + 1) * b
  one_added = rw (← over_one) (mul-le-mul_right b (omega arith))

  one_taken : (x * a - 1) * b ≤ a * (x * b)
  one_taken = rw (← over_one) (mul-le-mul_right b (omega arith))

  added_taken : (y : ℕ) → 0 < y → a * (y * (x * b)) ≤ (y * (x * a + 1) - 1) * b
  added_taken y p =
      let e : y * suc (x * a) ≡ y * (x * a) + y = mul-suc y (x * a) in
      rw (← over_two y) (mul-le-mul_right b (omega arith))

  taken_added : (y : ℕ) → 0 < y → 0 < x * a → (y * (x * a - 1) + 1) * b ≤ a * (y * (x * b))
  taken_added y p q =
      let s : suc (x * a - 1) ≡ x * a = omega arith in
      let e : y * (x * a) ≡ y * (x * a - 1) + y = ap (λ (z : ℕ). y * z) (sym s) ∙ mul-suc y (x * a - 1) in
      rw (← over_two y) (mul-le-mul_right b (omega arith))

-- ---- the sums

bottom_pos : (n : ℕ) → 0 < bottom n
unfolding bottom
bottom_pos zero = lit< tt
bottom_pos (suc n) = mul-pos (omega arith) (bottom_pos n)

bottom_next : (n : ℕ) → bottom (suc n) ≡ 4 * suc n * bottom n
unfolding bottom
bottom_next n = refl

-- the odd power after an even one is taken away
top_taken : (n : ℕ) → n % 2 ≡ 0 → top (suc n) ≡ 4 * suc n * top n - 1
unfolding top
top_taken n even = ap (λ (t : Bool). cond t (4 * suc n * top n - 1) (4 * suc n * top n + 1)) (eq-eqb (n % 2) 0 even)

-- the even power after an odd one is added
top_added : (n : ℕ) → n % 2 ≡ 1 → top (suc n) ≡ 4 * suc n * top n + 1
unfolding top
top_added n odd = ap (λ (t : Bool). cond t (4 * suc n * top n - 1) (4 * suc n * top n + 1)) (ne_eqb (n % 2) 0 (λ e. omega arith))

even_or_odd : (n : ℕ) → (n % 2 ≡ 0) ⊎ (n % 2 ≡ 1)
even_or_odd zero = inl refl
even_or_odd (suc n) = go (even_or_odd n)
  where
    go : (n % 2 ≡ 0) ⊎ (n % 2 ≡ 1) → (suc n % 2 ≡ 0) ⊎ (suc n % 2 ≡ 1)
    go (inl e) = inr (omega arith)
    go (inr e) = inl (omega arith)

grown : (n t : ℕ) → 0 < t → 4 ≤ 4 * suc n * t
grown n t p = let m : 0 < suc n * t = mul-pos (omega arith) p in rw (mul_assoc 4 (suc n) t) (omega arith)

top_pos : (n : ℕ) → 0 < top n
unfolding top
top_pos zero = lit< tt
top_pos (suc n) = go (grown n (top n) (top_pos n)) (even_or_odd n)
  where
    go : 4 ≤ 4 * suc n * top n → (n % 2 ≡ 0) ⊎ (n % 2 ≡ 1) → 0 < top (suc n)
    go g (inl e) = rw (top_taken n e) (omega arith)
    go g (inr e) = rw (top_added n e) (omega arith)

-- ---- the sums in order

at_most_trans : (l m n : ℕ) → AtMost l m → AtMost m n → AtMost l n
at_most_trans l m n p q = chained (top l) (bottom l) (top m) (bottom m) (top n) (bottom n) (bottom_pos m) p q

-- from an odd power, one more and two more are no lower
module _ (n : ℕ) (odd : n % 2 ≡ 1) where
  odd_one : AtMost n (suc n)
  odd_one = rw (top_added n odd, bottom_next n) (one_added (top n) (bottom n) (4 * suc n))

  odd_two : AtMost n (suc (suc n))
  odd_two =
      let even : suc n % 2 ≡ 0 = omega arith in
      let h = added_taken (top n) (bottom n) (4 * suc n) (4 * suc (suc n)) (omega arith) in
      rw (top_taken (suc n) even, bottom_next (suc n), top_added n odd, bottom_next n) h

-- from an even power, one more and two more are no higher
module _ (n : ℕ) (even : n % 2 ≡ 0) where
  even_one : AtMost (suc n) n
  even_one = rw (top_taken n even, bottom_next n) (one_taken (top n) (bottom n) (4 * suc n))

  even_two : AtMost (suc (suc n)) n
  even_two =
      let odd : suc n % 2 ≡ 1 = omega arith in
      let g = grown n (top n) (top_pos n) in
      let h = taken_added (top n) (bottom n) (4 * suc n) (4 * suc (suc n)) (omega arith) (omega arith) in
      rw (top_added (suc n) odd, bottom_next (suc n), top_taken n even, bottom_next n) h

-- the sum through an odd power is at most each later one
odd_lowest : (k m n : ℕ) → m % 2 ≡ 1 → m + k ≡ n → AtMost m n
odd_lowest zero m n odd e = let q : m ≡ n = omega arith in subst (λ (i : ℕ). AtMost m i) q (le_refl _)
odd_lowest (suc zero) m n odd e = let q : suc m ≡ n = omega arith in subst (λ (i : ℕ). AtMost m i) q (odd_one m odd)
odd_lowest (suc (suc k)) m n odd e =
    at_most_trans m (suc (suc m)) n (odd_two m odd) (odd_lowest k (suc (suc m)) n (omega arith) (omega arith))

-- the sum through an even power is at least each later one
even_highest : (k m n : ℕ) → m % 2 ≡ 0 → m + k ≡ n → AtMost n m
even_highest zero m n even e = let q : m ≡ n = omega arith in subst (λ (i : ℕ). AtMost i m) q (le_refl _)
even_highest (suc zero) m n even e = let q : suc m ≡ n = omega arith in subst (λ (i : ℕ). AtMost i m) q (even_one m even)
even_highest (suc (suc k)) m n even e =
    at_most_trans n (suc (suc m)) m (even_highest k (suc (suc m)) n (omega arith) (omega arith)) (even_two m even)

below_high : (n : ℕ) → (too_low ≡ n) ⊎ (too_low < n) → AtMost n too_high
below_high n (inl e) = subst (λ (i : ℕ). AtMost i too_high) e (odd_lowest 1 too_low too_high refl refl)
below_high n (inr h) = even_highest (n - too_high) too_high n refl (omega arith)

pub later_between : (n : ℕ) → too_low ≤ n → AtMost too_low n × AtMost n too_high
later_between n h = (odd_lowest (n - too_low) too_low n refl (omega arith), below_high n (eq-or-lt_of_le h))

-- ---- their powers

powers : (m n j : ℕ) → AtMost m n → top m ^ j * bottom n ^ j ≤ top n ^ j * bottom m ^ j
powers m n j h = rw (← mul-pow (top m) (bottom n) j, ← mul-pow (top n) (bottom m) j) (pow-le-pow_left h j)

bottom_power_pos : (n j : ℕ) → 0 < bottom n ^ j
bottom_power_pos n j = one-le-pow j (bottom n) (bottom_pos n)

-- what is rounded down to e at a lower sum and at a higher one is so at each between them
module _ (l n h j e : ℕ) where
  still_reached : AtMost l n → RoundedDown l j e → e * bottom n ^ j ≤ 2 ^ 52 * top n ^ j
  still_reached p r =
      let s : e * bottom l ^ j ≤ top l ^ j * 2 ^ 52 = rw (mul_comm (top l ^ j) (2 ^ 52)) r.reached in
      let pos = bottom_power_pos l j in
      let t = chained e (2 ^ 52) (top l ^ j) (bottom l ^ j) (top n ^ j) (bottom n ^ j) pos s (powers l n j p) in
      rw (mul_comm (2 ^ 52) (top n ^ j)) t

  still_next : AtMost n h → RoundedDown h j e → 2 ^ 52 * top n ^ j < (e + 1) * bottom n ^ j
  still_next p r =
      let s : top h ^ j * 2 ^ 52 < (e + 1) * bottom h ^ j = rw (mul_comm (top h ^ j) (2 ^ 52)) r.next in
      let pos = bottom_power_pos h j in
      let t = chained_below (top n ^ j) (bottom n ^ j) (top h ^ j) (bottom h ^ j) (e + 1) (2 ^ 52) pos (powers n h j p) (bottom_power_pos n j) s in
      rw (mul_comm (2 ^ 52) (top n ^ j)) t

  between_rounded : AtMost l n × AtMost n h → RoundedDown l j e → RoundedDown h j e → RoundedDown n j e
  between_rounded b low high = record { reached = still_reached b.0 low; next = still_next b.1 high }

later_rounded : (n : ℕ) → too_low ≤ n → (j : ℕ) → 1 ≤ j → j ≤ most_quarters → RoundedDown n j (E j)
later_rounded n h j l m = between_rounded too_low n too_high j (E j) (later_between n h) (by_low j l m) (by_high j l m)

pub thresholds : Thresholds
thresholds = record { low = by_low; high = by_high; apart = low_below_high; later = later_rounded }
