-- The first probability has no minus sign and is no NaN: every step multiplies or divides by a whole number from 1 on. So the Rust's
-- `initial_p <= 0.0` and the rules' 'is 0' are one test. Assumes nothing.
use mathlib.Core.Path.{◌≡◌, refl}
use mathlib.Core.Bool.{Bool, true, false, cond}
use Prim.Native.Nat.{ℕ, zero, suc, ◌+◌, ◌-◌, ◌*◌, ◌^◌, ◌≤◌, ◌<◌, min, max}
use native.Mathlib.Omega.{arith}
use borrow.Author.Tests.{ne_eqb, le-ltb}
use lib.Dec.{T, eqb, ltb, leb, ltb→lt}
use lib.Ieee.{Float, nan, inf, fin, Format, binary64, prec, emax, low, up, down, odd, units, round, mul, div, lt, le, eq}
use lib.Ieee.Positive.{positive, positive_of_value}
use Rattle.words.specs.Words.{ratio}
use Rattle.hypergeometric.specs.Reduction.{population_cap, reduction}
use Rattle.first_probability.specs.First.{as_float, times_in, over_in, at_factor, factors, fraction_of_factorials, first_probability}
use Rattle.hypergeometric.specs.SetUp.{set_up, zero_or_not_finite}
use Rattle.hypergeometric.specs.RustTest.{rust_refuses}
use Rattle.first_probability.proofs.Factors.{whole_exact}
use Rattle.hypergeometric.proofs.Settling.{sizes}

-- no NaN and no minus sign
abbrev pub Plain : Float → Type 0
Plain nan = ⊥
Plain (inf s) = s ≡ false
Plain (fin s m e) = s ≡ false

cond_plain : (b : Bool) (x y : Float) → Plain x → Plain y → Plain (cond b x y)
cond_plain true x y h k = h
cond_plain false x y h k = k

odd_plain : (d q k l : ℕ) → Plain (odd d false q k l)
unfolding odd
odd_plain d zero k l = refl
odd_plain d (suc q) k l = refl

units_plain : (f : Format) (q k : ℕ) → Plain (units f false q k)
unfolding units
units_plain f q k =
    let fits = ltb (q * 2 ^ k) (2 ^ (low f + suc (emax f))) in
    cond_plain fits (odd (suc (prec f)) false q k (low f)) (inf false) (odd_plain (suc (prec f)) q k (low f)) refl

round_plain : (f : Format) (a b : ℕ) → Plain (round f false a b)
unfolding round
round_plain f a b = units_plain f _ _

-- a factor above 0 is not 0
not_zero : (n : ℕ) → T (ltb 0 n) → eqb n 0 ≡ false
not_zero n h = let l = ltb→lt 0 n h in ne_eqb n 0 (λ e. omega arith)

mul_plain : (x y : Float) → Plain x → T (positive y) → Plain (mul binary64 x y)
unfolding mul
mul_plain nan y h k = absurd h
mul_plain (inf s) nan h k = absurd k
mul_plain (inf s) (inf t) h k = absurd k
mul_plain (inf s) (fin true n d) h k = absurd k
mul_plain (inf s) (fin false n d) h k = rw (not_zero n k, h)
mul_plain (fin s m e) nan h k = absurd k
mul_plain (fin s m e) (inf t) h k = absurd k
mul_plain (fin s m e) (fin true n d) h k = absurd k
mul_plain (fin s m e) (fin false n d) h k = rw h (round_plain binary64 (m * up e * (n * up d)) (down e * down d))

div_plain : (x y : Float) → Plain x → T (positive y) → Plain (div binary64 x y)
unfolding div
div_plain nan y h k = absurd h
div_plain (inf s) nan h k = absurd k
div_plain (inf s) (inf t) h k = absurd k
div_plain (inf s) (fin true n d) h k = absurd k
div_plain (inf s) (fin false n d) h k = rw h
div_plain (fin s m e) nan h k = absurd k
div_plain (fin s m e) (inf t) h k = absurd k
div_plain (fin s m e) (fin true n d) h k = absurd k
div_plain (fin s m e) (fin false n d) h k = rw (not_zero n k, h) (round_plain binary64 (m * up e * down d) (n * up d * down e))

-- ---- the steps
module _ (i : ℕ) (w : T (positive (as_float i))) where
  times_plain : (top : ℕ) (p : Float) → Plain p → Plain (times_in top i p)
  unfolding times_in
  times_plain top p k = cond_plain (leb i top) (mul binary64 p (as_float i)) p (mul_plain p (as_float i) k w) k

  over_plain : (bottom : ℕ) (p : Float) → Plain p → Plain (over_in bottom i p)
  unfolding over_in
  over_plain bottom p k = cond_plain (leb i bottom) (div binary64 p (as_float i)) p (div_plain p (as_float i) k w) k

module _ (min_top min_bottom max_top max_bottom : ℕ) where
  -- each of the four steps keeps it, in whatever order they stand
  at_plain : (i : ℕ) (p : Float) → 0 < i → i ≤ 2 ^ 53 → Plain p → Plain (at_factor min_top min_bottom max_top max_bottom i p)
  unfolding at_factor
  at_plain i p l h k =
      let w = positive_of_value (as_float i) i 1 (whole_exact i h) l in
      let either = cond_plain in
      search (times_plain, over_plain)

  factors_plain : (n i : ℕ) (p : Float) → n + i ≤ 2 ^ 53 → Plain p → Plain (factors min_top min_bottom max_top max_bottom n i p)
  unfolding factors
  factors_plain zero i p h k = k
  factors_plain (suc n) i p h k =
      factors_plain n (i + 1) (at_factor min_top min_bottom max_top max_bottom (i + 1) p) (omega arith) (at_plain (i + 1) p (omega arith) (omega arith) k)

within : (low high top : ℕ) → low ≤ high → high ≤ top → high - low + low ≤ top
within low high top l h = omega arith

fraction_plain : (a b c d : ℕ) → a ≤ 2 ^ 53 → b ≤ 2 ^ 53 → c ≤ 2 ^ 53 → d ≤ 2 ^ 53 → Plain (fraction_of_factorials a b c d)
unfolding fraction_of_factorials
fraction_plain a b c d ha hb hc hd =
    let min_all = min (min a b) (min c d) in
    let max_all = max (max a b) (max c d) in
    let m : max_all ≤ 2 ^ 53 = omega arith in
    let l : min_all ≤ max_all = omega arith in
    factors_plain (min a b) (min c d) (max a b) (max c d) (max_all - min_all) min_all (ratio 1 1) (within min_all max_all (2 ^ 53) l m) (round_plain binary64 1 1)

pub first_plain : (N n1 n2 k : ℕ) → N ≤ population_cap → n1 ≤ N → n2 ≤ N → k ≤ N → Plain (first_probability N n1 n2 k)
unfolding first_probability
first_plain N n1 n2 k h a b c =
    cond_plain (ltb k n2) _ _ (fraction_plain n2 (N - k) N (n2 - k) (omega arith) (omega arith) (omega arith) (omega arith))
    (fraction_plain n1 k N (k - n2) (omega arith) (omega arith) (omega arith) (omega arith))

-- ---- the test
plain_agrees : (p : Float) → Plain p → zero_or_not_finite p ≡ rust_refuses p
unfolding zero_or_not_finite rust_refuses lt le eq round
plain_agrees nan h = absurd h
plain_agrees (inf s) h = rw h
plain_agrees (fin s m e) h = rw (h, le-ltb (m * up e * 1) (0 * down e) (omega arith))

-- below the cap, the first probability is refused exactly where the Rust refuses it
pub first_agrees : (N K n : ℕ) → K ≤ N → n ≤ N → N ≤ population_cap → zero_or_not_finite (set_up N K n).first ≡ rust_refuses (set_up N K n).first
unfolding set_up
first_agrees N K n hK hn h =
    let s = sizes N K n hK hn h in
    let r = reduction N K n in
    plain_agrees (first_probability N r.n1 r.n2 r.k) (first_plain N r.n1 r.n2 r.k h s.n1≤ s.n2≤ s.k≤)
