-- A fraction is floor(w / 2048) / 2^53 to the last bit, at least 0 and at most 1 - 2^-53 (RULES, 'Words and fractions'). Assumes nothing.
use mathlib.Core.Path.{◌≡◌, sym, ap, ◌∙◌}
use mathlib.Core.Bool.{Bool, false, not}
use Prim.Native.Nat.{ℕ, suc, ◌+◌, ◌-◌, ◌*◌, ◌/◌, ◌^◌, ◌≤◌, ◌<◌, zero-le}
use native.Mathlib.Nat.{lt_of_lt_of_le, one-mul, mul_assoc, mul_comm, mul-pos, mul-le-mul_right}
use native.Mathlib.Omega.{arith}
use lib.Dec.{T}
use lib.IntN.{pos}
use lib.Pow.{pow-add, pow_pos, pow_mono, shl_lt}
use lib.Ieee.{Float, nan, inf, fin, binary64, emax, low, unlike, up, down, div, round, of_int, le, is_nan}
use lib.Ieee.Back.{round_whole}
use lib.Ieee.Exact.{HasValue, round_exact}
use lib.Ieee.Fits.{down_pos}
use lib.Ieee.Order.{round_mono}
use lib.Ieee.Scale.{round_same}
use Rattle.words.specs.Words.{ratio, fraction_of}

-- ---- a whole number over a power of two

-- below 2^53, over 2^k, nothing is rounded away
pub over_exact : (k l n : ℕ) → k + l ≡ 1074 → n < 2 ^ 53 → HasValue (ratio n (2 ^ k)) false n (2 ^ k)
over_exact k l n e small =
    let most : 53 + l ≤ low binary64 + suc (emax binary64) = omega arith in
    let fine : n * 2 ^ l < 2 ^ (low binary64 + suc (emax binary64)) = lt_of_lt_of_le (shl_lt 53 l small) (pow_mono {i = 53 + l} {j = low binary64 + suc (emax binary64)} most) in
    round_exact binary64 false n (2 ^ k) n l (pow_pos k) small fine
    (ap (λ (i : ℕ). n * 2 ^ i) (sym e) ∙ ap (λ (x : ℕ). n * x) (pow-add 2 k l ∙ mul_comm (2 ^ k) (2 ^ l)) ∙ sym (mul_assoc n (2 ^ l) (2 ^ k)))

-- a float whose value is n, over 2^k, is n / 2^k rounded once
over : (k n : ℕ) (x : Float) → HasValue x false n 1 → div binary64 x (fin false 1 (pos k)) ≡ ratio n (2 ^ k)
unfolding div
over k n nan v = absurd v
over k n (inf s) v = absurd v
over k n (fin s m e) v =
    ap (λ (b : Bool). round binary64 (unlike b false) (m * up e * 1) (1 * 2 ^ k * down e)) v.0
    ∙ round_same binary64 false (m * up e * 1) (1 * 2 ^ k * down e) n (2 ^ k) (mul-pos (mul-pos (pow_pos 0) (pow_pos k)) (down_pos e)) (pow_pos k)
    (ap (λ (x : ℕ). x * 2 ^ k) v.1 ∙ mul_assoc n (down e) (2 ^ k) ∙ ap (λ (x : ℕ). n * x) (mul_comm (down e) (2 ^ k) ∙ ap (λ (x : ℕ). x * down e) (sym (one-mul (2 ^ k)))))

-- so a whole number up to 2^53, cast and divided by 2^k, is that
pub cast_over : (k n : ℕ) → n ≤ 2 ^ 53 → div binary64 (of_int binary64 (pos n)) (fin false 1 (pos k)) ≡ ratio n (2 ^ k)
unfolding of_int
cast_over k n h = over k n (round binary64 false n 1) (round_whole binary64 false n h)

-- ---- the fraction of a word

module _ (w : ℕ) where
  -- nothing is rounded away
  pub fraction_exact : w < 2 ^ 64 → HasValue (fraction_of w) false (w / 2048) (2 ^ 53)
  unfolding fraction_of
  fraction_exact h = over_exact 53 1021 (w / 2048) (omega arith) (omega arith)

  -- so it is a number, and has bits
  pub fraction_number : w < 2 ^ 64 → T (not (is_nan (fraction_of w)))
  unfolding is_nan
  fraction_number h = number (fraction_of w) (fraction_exact h)
    where
      number : (x : Float) → HasValue x false (w / 2048) (2 ^ 53) → T (not (is_nan x))
      number nan v = absurd v
      number (inf s) v = absurd v
      number (fin s m e) v = tt

  pub fraction_low : T (le (ratio 0 1) (fraction_of w))
  unfolding fraction_of
  fraction_low = round_mono binary64 0 1 (w / 2048) (2 ^ 53) (pow_pos 0) (pow_pos 53) zero-le

  pub fraction_high : w < 2 ^ 64 → T (le (fraction_of w) (ratio (2 ^ 53 - 1) (2 ^ 53)))
  unfolding fraction_of
  fraction_high h = round_mono binary64 (w / 2048) (2 ^ 53) (2 ^ 53 - 1) (2 ^ 53) (pow_pos 53) (pow_pos 53) (let b : w / 2048 ≤ 2 ^ 53 - 1 = omega arith in mul-le-mul_right (2 ^ 53) b)
