-- Below the cap the whole-number test agrees with the Rust's float test (RULES, 'The inversion', refusal 6), both ways, of the rounded floats.
-- A is (k+1)(n1+1), and B is N+2. Both are exact, A / B stays on its side of 10 when it is rounded, and so does its whole part. Assumes nothing.
use mathlib.Core.Path.{◌≡◌, refl, sym, ap, ◌∙◌}
use mathlib.Core.Bool.{Bool, true, false, cond, true≢false, false≢true}
use Prim.Native.Nat.{ℕ, ◌+◌, ◌-◌, ◌*◌, ◌/◌, ◌^◌, ◌≤◌, ◌<◌, zero-le}
use native.Mathlib.Nat.{sub-zero, mul-one, mul_assoc, mul_comm, mul-pos, mul-sub, mul-le-mul, mul-le-mul_right, mul-lt-mul_of_pos_right}
use native.Mathlib.Nat.{le-div_iff_mul-le, div-lt_iff_lt-mul, div-le_of_le-mul}
use native.Mathlib.Omega.{arith}
use borrow.Author.Tests.{lt-ltb, le-ltb, ne_eqb, ltb-true, ltb-false}
use lib.Dec.{T, ltb, ltb→lt, lit≤}
use lib.Pow.{pow_pos}
use lib.Ieee.{Float, nan, inf, fin, binary64, up, down, round, sum, sub, mul, div, lt, le, of_int}
use lib.Ieee.Exact.{HasValue}
use lib.Ieee.Back.{round_whole}
use lib.Ieee.Fits.{down_pos}
use lib.Ieee.Order.{round_mono}
use lib.Ieee.Scale.{round_same}
use lib.Ieee.Positive.{num, den, den_pos, positive, own_value, positive_of_value, mul_at, between, values_of_le}
use Rattle.words.specs.Words.{ratio}
use Rattle.hypergeometric.specs.Reduction.{population_cap, reduction}
use Rattle.first_probability.specs.First.{as_float}
use Rattle.hypergeometric.specs.SetUp.{set_up, is_taken}
use Rattle.hypergeometric.specs.RustTest.{floor, larger, rust_mode, rust_takes}
use Rattle.hypergeometric.proofs.Reducing.{n1+n2, k≤n2}
use Rattle.first_probability.proofs.Factors.{whole_exact}

-- ---- whole numbers as floats: their test, difference and quotient
-- two orders that hold together are one test
ltb_same : (a b c d : ℕ) → (c < d → a < b) → (d ≤ c → b ≤ a) → ltb a b ≡ ltb c d
ltb_same a b c d f g = go (ltb c d) refl
  where
    go : (t : Bool) → ltb c d ≡ t → ltb a b ≡ t
    go true e = lt-ltb a b (f (ltb-true c d e))
    go false e = le-ltb a b (g (ltb-false c d e))

-- a factor above 0 on both sides changes no test
ltb_scale : (a b c : ℕ) → 0 < c → ltb (a * c) (b * c) ≡ ltb a b
ltb_scale a b c C = ltb_same (a * c) (b * c) a b (λ h. mul-lt-mul_of_pos_right h C) (λ h. mul-le-mul_right c h)

-- m / p is a, brought over p * q
over : (m a p q : ℕ) → m * 1 ≡ a * p → m * q ≡ a * (p * q)
over m a p q h = ap (λ (z : ℕ). z * q) (sym (mul-one m) ∙ h) ∙ mul_assoc a p q

-- The test, the difference and the quotient of two floats with whole values are the numbers': over one denominator only a factor is between them.
lt_whole : (x y : Float) (a b : ℕ) → HasValue x false a 1 → HasValue y false b 1 → lt x y ≡ ltb a b
unfolding lt
lt_whole nan y a b h k = elim h [ ]
lt_whole (inf s) y a b h k = elim h [ ]
lt_whole (fin true m e) y a b h k = absurd (true≢false h.0)
lt_whole (fin false m e) nan a b h k = elim k [ ]
lt_whole (fin false m e) (inf s) a b h k = elim k [ ]
lt_whole (fin false m e) (fin true n d) a b h k = absurd (true≢false k.0)
lt_whole (fin false m e) (fin false n d) a b h k =
    rw (over (m * up e) a (down e) (down d) h.1, over (n * up d) b (down d) (down e) k.1, mul_comm (down d) (down e))
    (ltb_scale a b (down e * down d) (mul-pos (down_pos e) (down_pos d)))

sum_scale : (a b c : ℕ) → 0 < c → sum binary64 false (a * c) true (b * c) c ≡ sum binary64 false a true b 1
unfolding sum
sum_scale a b c C = rw (ltb_scale a b c C, same true b a, same false a b)
  where
    same : (s : Bool) (p q : ℕ) → round binary64 s (p * c - q * c) c ≡ round binary64 s (p - q) 1
    same s p q = round_same binary64 s (p * c - q * c) c (p - q) 1 C (pow_pos 0) (simp (mul-one, mul_comm, mul-sub))

sub_whole : (x y : Float) (a b : ℕ) → HasValue x false a 1 → HasValue y false b 1 → sub binary64 x y ≡ sum binary64 false a true b 1
unfolding sub
sub_whole nan y a b h k = elim h [ ]
sub_whole (inf s) y a b h k = elim h [ ]
sub_whole (fin true m e) y a b h k = absurd (true≢false h.0)
sub_whole (fin false m e) nan a b h k = elim k [ ]
sub_whole (fin false m e) (inf s) a b h k = elim k [ ]
sub_whole (fin false m e) (fin true n d) a b h k = absurd (true≢false k.0)
sub_whole (fin false m e) (fin false n d) a b h k =
    rw (over (m * up e) a (down e) (down d) h.1, over (n * up d) b (down d) (down e) k.1, mul_comm (down d) (down e))
    (sum_scale a b (down e * down d) (mul-pos (down_pos e) (down_pos d)))

div_whole : (x y : Float) (a b : ℕ) → 0 < b → HasValue x false a 1 → HasValue y false b 1 → div binary64 x y ≡ ratio a b
unfolding div
div_whole nan y a b B h k = elim h [ ]
div_whole (inf s) y a b B h k = elim h [ ]
div_whole (fin true m e) y a b B h k = absurd (true≢false h.0)
div_whole (fin false m e) nan a b B h k = elim k [ ]
div_whole (fin false m e) (inf s) a b B h k = elim k [ ]
div_whole (fin false m e) (fin true n d) a b B h k = absurd (true≢false k.0)
div_whole (fin false m e) (fin false n d) a b B h k =
    let c = down e * down d in
    let C : 0 < c = mul-pos (down_pos e) (down_pos d) in
    let z = ne_eqb n 0 (λ o. omega (arith, ltb→lt 0 n (positive_of_value (fin false n d) b 1 k B))) in
    rw (z, over (m * up e) a (down e) (down d) h.1, over (n * up d) b (down d) (down e) k.1, mul_comm (down d) (down e))
    (round_same binary64 false (a * c) (b * c) a b (mul-pos B C) B (mul_assoc a c b ∙ ap (λ (z : ℕ). a * z) (mul_comm c b)))

-- ---- the parts of the Rust's test
-- each factor is at most 2^20 + 1, so the product is at most 2^53
small : (n1 k : ℕ) → n1 ≤ 1048576 → k ≤ 1048576 → (k + 1) * (n1 + 1) ≤ 2 ^ 53
small n1 k h j = omega (arith, mul-le-mul {n₁ = k + 1} {m₁ = n1 + 1} {n₂ = 1048577} {m₂ = 1048577} (omega arith) (omega arith))

-- so nothing is rounded
pub product_exact : (n1 k : ℕ) → n1 ≤ 1048576 → k ≤ 1048576
    → HasValue (mul binary64 (as_float (k + 1)) (as_float (n1 + 1))) false ((k + 1) * (n1 + 1)) 1
unfolding of_int
product_exact n1 k h j =
    let v = whole_exact (k + 1) (omega arith) in
    let w = whole_exact (n1 + 1) (omega arith) in
    let p = positive_of_value (ratio (k + 1) 1) (k + 1) 1 v (omega arith) in
    let q = positive_of_value (ratio (n1 + 1) 1) (n1 + 1) 1 w (omega arith) in
    rw (mul_at binary64 _ _ (k + 1) 1 (n1 + 1) 1 p q (pow_pos 0) (pow_pos 0) v w)
    (whole_exact ((k + 1) * (n1 + 1)) (small n1 k h j))

-- A / B is at most 10 - 1 / B, and so at most 10 - 2^-21, which is a float below 10
pub below_ten : (A B : ℕ) → A < 10 * B → B ≤ 1048578 → T (le (ratio A B) (ratio (10 * 2 ^ 21 - 1) (2 ^ 21)))
below_ten A B h b = round_mono binary64 A B (10 * 2 ^ 21 - 1) (2 ^ 21) (omega arith) (pow_pos 21) (omega arith)

-- 10 is a float, so what is not below it is not rounded below it
pub from_ten : (A B : ℕ) → 0 < B → 10 * B ≤ A → T (le (ratio 10 1) (ratio A B))
from_ten A B P h = round_mono binary64 10 1 A B (pow_pos 0) P (omega arith)

-- nothing negative is above 0
not_above : (z : Float) (a : ℕ) → HasValue z true a 1 → lt (ratio 0 1) z ≡ false
unfolding lt round
not_above nan a v = elim v [ ]
not_above (inf s) a v = elim v [ ]
not_above (fin false m e) a v = absurd (false≢true v.0)
not_above (fin true m e) a v = refl

-- k - n2 is negative or 0
pub no_excess : (k n2 : ℕ) → k ≤ n2 → n2 ≤ 2 ^ 53 → larger (ratio 0 1) (sub binary64 (as_float k) (as_float n2)) ≡ ratio 0 1
unfolding larger sum of_int
no_excess k n2 h j = rw (sub_whole (ratio k 1) (ratio n2 1) k n2 (whole_exact k (omega arith)) (whole_exact n2 j), go (ltb k n2))
  where
    go : (t : Bool) → lt (ratio 0 1) (cond t (round binary64 true (n2 - k) 1) (ratio (k - n2) 1)) ≡ false
    go true = not_above (round binary64 true (n2 - k) 1) (n2 - k) (round_whole binary64 true (n2 - k) (omega arith))
    go false = lt_whole (ratio 0 1) (ratio (k - n2) 1) 0 (k - n2) (whole_exact 0 zero-le) (whole_exact (k - n2) (omega arith)) ∙ le-ltb 0 (k - n2) (omega arith)

-- ---- the quotient's whole part
-- it lies between 2^-21 and 2^53
in_range : (A B : ℕ) → 0 < A → A ≤ 2 ^ 53 → 0 < B → B ≤ 1048578 → T (positive (ratio A B)) × T (le (ratio A B) (ratio (2 ^ 53) 1))
unfolding round
in_range A B a h b t =
    let high = round_mono binary64 A B (2 ^ 53) 1 b (pow_pos 0) (omega arith) in
    (between (ratio 1 (2 ^ 21)) (ratio A B) (ratio (2 ^ 53) 1) tt tt (round_mono binary64 1 (2 ^ 21) A B (pow_pos 21) b (omega arith)) high, high)

-- where a float above 0 lies, its whole part does
module _ (q : Float) (p : T (positive q)) where
  cut_top : T (le q (ratio (2 ^ 53) 1)) → num q / den q ≤ 2 ^ 53
  unfolding round
  cut_top h = div-le_of_le-mul (den q) (omega (arith, values_of_le q _ (num q) (den q) (2 ^ 53) 1 p tt (own_value q p) (refl, refl) h))

  cut_below : T (le q (ratio (10 * 2 ^ 21 - 1) (2 ^ 21))) → num q / den q < 10
  unfolding round
  cut_below h =
      let l = values_of_le q _ (num q) (den q) (10 * 2 ^ 21 - 1) (2 ^ 21) p tt (own_value q p) (refl, refl) h in
      (div-lt_iff_lt-mul (den_pos q)).1 (omega (arith, den_pos q))

  cut_from : T (le (ratio 10 1) q) → 10 ≤ num q / den q
  unfolding round
  cut_from h = (le-div_iff_mul-le (den_pos q)).1 (omega (arith, values_of_le _ q 10 1 (num q) (den q) tt p (refl, refl) (own_value q p) h))

-- which `floor` rounds, as its definition says
floor_is : (x : Float) → T (positive x) → floor x ≡ ratio (num x / den x) 1
unfolding floor
floor_is nan p = elim p [ ]
floor_is (inf s) p = elim p [ ]
floor_is (fin true m e) p = absurd p
floor_is (fin false m e) p = refl

-- +0 taken from a whole number leaves it
whole_test : (c : ℕ) → c ≤ 2 ^ 53 → lt (sub binary64 (ratio c 1) (ratio 0 1)) (ratio 10 1) ≡ ltb c 10
unfolding sum of_int
whole_test c h =
    rw (sub_whole (ratio c 1) (ratio 0 1) c 0 (whole_exact c h) (whole_exact 0 zero-le), le-ltb c 0 zero-le, sub-zero)
    (lt_whole (ratio c 1) (ratio 10 1) c 10 (whole_exact c h) (whole_exact 10 (lit≤ tt)))

-- the whole part is below 10 exactly where A / B is
pub mode_agrees : (N n1 n2 k : ℕ) → N ≤ 1048576 → n1 ≤ N → k ≤ n2 → n2 ≤ N
    → rust_takes N n1 n2 k ≡ ltb ((k + 1) * (n1 + 1)) (10 * (N + 2))
unfolding rust_takes rust_mode of_int
mode_agrees N n1 n2 k hN h1 hk h2 =
    let A = (k + 1) * (n1 + 1) in
    let B = N + 2 in
    let q = ratio A B in
    let c = num q / den q in
    let s = small n1 k (omega arith) (omega arith) in
    let r = in_range A B (mul-pos {m = k + 1} {n = n1 + 1} (omega arith) (omega arith)) s (omega arith) (omega arith) in
    let x = product_exact n1 k (omega arith) (omega arith) in
    rw (div_whole _ (as_float B) A B (omega arith) x (whole_exact B (omega arith)), floor_is q r.0, no_excess k n2 hk (omega arith))
    (whole_test c (cut_top q r.0 r.1)
    ∙ ltb_same c 10 A (10 * B) (λ h. cut_below q r.0 (below_ten A B h (omega arith))) (λ h. cut_from q r.0 (from_ten A B (omega arith) h)))

-- below the cap, the inversion is taken exactly where the Rust takes it
pub taken_agrees : (N K n : ℕ) → K ≤ N → n ≤ N → N ≤ population_cap
    → is_taken N (set_up N K n) ≡ rust_takes N (reduction N K n).n1 (reduction N K n).n2 (reduction N K n).k
unfolding is_taken set_up
taken_agrees N K n hK hn h =
    let r = reduction N K n in
    let s = n1+n2 N K n hK hn in
    sym (mode_agrees N r.n1 r.n2 r.k h (omega arith) (k≤n2 N K n hK hn) (omega arith))
