-- Floats by their 64 bits: up to the infinity they stand in the order of their bits, and one with a sign is below 0, or is -0.0 or a NaN.
-- So a range of floats is a range of bits. Assumes nothing.
use mathlib.Core.Path.{◌≡◌, refl, sym, ap, ◌∙◌, subst}
use mathlib.Core.Logic.{◌⊎◌, inl, inr}
use mathlib.Core.Bool.{Bool, true, false, not, ◌&&◌, ◌||◌, cond, and-false, true≢false}
use Prim.Native.Nat.{ℕ, zero, suc, ◌+◌, ◌*◌, ◌/◌, ◌%◌, ◌^◌, ◌≤◌, ◌<◌}
use native.Mathlib.Nat.{eq-or-lt_of_le, le_of_suc-le-suc, le_of_eq, le_of_lt, lt_of_lt_of_le, mod-eq_of_lt}
use native.Mathlib.Nat.{mul-one, mul-pos, mul-le-mul, mul-lt-mul_of_pos_right, mul-le-mul_right, le_of_mul-le-mul_right}
use native.Mathlib.Omega.{arith}
use borrow.Author.Tests.{ltb-true, ltb-false, le-ltb, lt-leb, le-leb, ne_eqb}
use lib.Dec.{T, ltb, eqb, ltb→lt, eqb→eq, not_T}
use lib.Pow.{pow_pos, pow_mono}
use lib.Ieee.{Float, nan, inf, fin, binary64, up, down, odd, of_fields, of_bits, nan_bits, le}
use lib.Ieee.Fits.{down_pos, and_l, and_r}
use lib.Ieee.Exact.{HasValue, odd_sign}
use lib.Ieee.Bits.{is_true, is_false, nan_bits_above}
use lib.Ieee.Order.{transfer, le_of_values}
use lib.Ieee.Positive.{first_pos}

-- the bits of the infinity: what is above it and has no sign is a NaN
abbrev pub infinity : ℕ
infinity = 0x7ff0_0000_0000_0000

-- the sign's bit, which alone is -0.0
abbrev pub sign : ℕ
sign = 0x8000_0000_0000_0000

-- the float of 64 bits
abbrev pub float : ℕ → Float
float b = of_bits binary64 b

-- ---- what the exponent's field x and the digits t stand for, in units of 2^-1074
units_of : ℕ → ℕ → ℕ
units_of zero t = t
units_of (suc x) t = (2 ^ 52 + t) * 2 ^ x

fields_value : (s : Bool) (x t : ℕ) → x < 2047 → HasValue (of_fields binary64 s x t) s (units_of x t) (2 ^ 1074)
unfolding of_fields units_of
fields_value s zero t h = subst (λ (n : ℕ). HasValue (odd 53 s t 0 1074) s n (2 ^ 1074)) (mul-one t) (odd_sign 53 s t 0 1074)
fields_value s (suc x) t h = rw (ne_eqb (suc x) 2047 (λ e. omega arith)) (odd_sign 53 s (2 ^ 52 + t) x 1074)

-- the field of all ones is an infinity or a NaN
fields_past : (s : Bool) (x t : ℕ) → x ≡ 2047 → of_fields binary64 s x t ≡ cond (eqb t 0) (inf s) nan
unfolding of_fields
fields_past s x t e = rw e

-- ---- units grow with the fields
units_digits : (x t u : ℕ) → t < u → units_of x t < units_of x u
unfolding units_of
units_digits zero t u h = h
units_digits (suc x) t u h = let w : 2 ^ 52 + t < 2 ^ 52 + u = omega arith in mul-lt-mul_of_pos_right w (pow_pos x)

units_under : (x t : ℕ) → t < 2 ^ 52 → units_of x t < 2 ^ 52 * 2 ^ x
unfolding units_of
units_under zero t h = omega arith
units_under (suc x) t h =
    let w : 2 ^ 52 + t < 2 ^ 53 = omega arith in
    let l : (2 ^ 52 + t) * 2 ^ x < 2 ^ 53 * 2 ^ x = mul-lt-mul_of_pos_right w (pow_pos x) in
    omega arith

units_field : (x y u : ℕ) → x < y → 2 ^ 52 * 2 ^ x ≤ units_of y u
unfolding units_of
units_field x zero u h = omega arith
units_field x (suc y) u h = let w : 2 ^ 52 ≤ 2 ^ 52 + u = omega arith in mul-le-mul w (pow_mono (le_of_suc-le-suc h))

-- so they grow with the bits
units_order : (x y t u : ℕ) → t < 2 ^ 52 → u < 2 ^ 52 → x * 2 ^ 52 + t < y * 2 ^ 52 + u → units_of x t < units_of y u
units_order x y t u h k l = go (eq-or-lt_of_le (let w : x ≤ y = omega arith in w))
  where
    go : (x ≡ y) ⊎ (x < y) → units_of x t < units_of y u
    go (inl e) = subst (λ (z : ℕ). units_of x t < units_of z u) e (units_digits x t u (omega arith))
    go (inr w) = lt_of_lt_of_le (units_under x t h) (units_field x y u w)

-- what 64 bits without a sign stand for, in those units
units_at : ℕ → ℕ
units_at b = units_of (b / 2 ^ 52) (b % 2 ^ 52)

units_more : (b c : ℕ) → b < c → units_at b < units_at c
unfolding units_at
units_more b c h = units_order (b / 2 ^ 52) (c / 2 ^ 52) (b % 2 ^ 52) (c % 2 ^ 52) (omega arith) (omega arith) (omega arith)

-- ---- the float of each pattern
plain_value : (b : ℕ) → b < infinity → HasValue (float b) false (units_at b) (2 ^ 1074)
unfolding of_bits units_at
plain_value b h =
    let low : b < sign = omega arith in
    rw (lt-leb sign b low, mod-eq_of_lt low) (fields_value false (b / 2 ^ 52) (b % 2 ^ 52) (omega arith))

-- an infinity or a NaN, where the field is all ones
plain_past : (b : ℕ) → infinity ≤ b → b < sign → float b ≡ cond (eqb (b % 2 ^ 52) 0) (inf false) nan
unfolding of_bits
plain_past b h low = rw (lt-leb sign b low, mod-eq_of_lt low) (fields_past false (b / 2 ^ 52) (b % 2 ^ 52) (omega arith))

signed_value : (b : ℕ) → sign ≤ b → b % sign < infinity → HasValue (float b) true (units_at (b % sign)) (2 ^ 1074)
unfolding of_bits units_at
signed_value b h k =
    let same : b % 2 ^ 52 ≡ b % sign % 2 ^ 52 = omega arith in
    rw (le-leb sign b h, same) (fields_value true (b % sign / 2 ^ 52) (b % sign % 2 ^ 52) (omega arith))

signed_past : (b : ℕ) → sign ≤ b → infinity ≤ b % sign → float b ≡ cond (eqb (b % 2 ^ 52) 0) (inf true) nan
unfolding of_bits
signed_past b h k = rw (le-leb sign b h) (fields_past true (b % sign / 2 ^ 52) (b % 2 ^ 52) (omega arith))

-- ---- `le` of two values over the same denominator
either : (p q : Bool) {A : Type 0} → (T p → A) → (T q → A) → T (p || (q && true)) → A
either true q f g t = f tt
either false true f g t = g tt
either false false f g t = absurd t

values_of_le : (x y : Float) (a b c : ℕ) → 0 < c → HasValue x false a c → HasValue y false b c → T (le x y) → a ≤ b
unfolding le
values_of_le nan y a b c C p q t = absurd p
values_of_le (inf s) y a b c C p q t = absurd p
values_of_le (fin true m e) y a b c C p q t = absurd (true≢false p.0)
values_of_le (fin false m e) nan a b c C p q t = absurd q
values_of_le (fin false m e) (inf s) a b c C p q t = absurd q
values_of_le (fin false m e) (fin true n d) a b c C p q t = absurd (true≢false q.0)
values_of_le (fin false m e) (fin false n d) a b c C p q t =
    let x = m * up e * down d in
    let y = n * up d * down e in
    let l : x ≤ y = either (ltb x y) (eqb x y) (λ h. le_of_lt (ltb→lt x y h)) (λ h. le_of_eq (eqb→eq x y h)) t in
    let r = transfer a b c c (m * up e) (n * up d) (down e) (down d) (down_pos e) (down_pos d) (sym p.1) (sym q.1) l in
    le_of_mul-le-mul_right r C

-- a value above 0 has a numerator above 0
size_above : (n d a c : ℕ) → 0 < d → 0 < a → n * c ≡ a * d → 0 < n
size_above n d a c D A e = first_pos n c (subst (λ (z : ℕ). 0 < z) (sym e) (mul-pos A D))

-- one without a sign is not at most one with a sign, but where both are 0
sign_below : (x y : Float) (a b c : ℕ) → HasValue x false a c → HasValue y true b c → (0 < a) ⊎ (0 < b) → le x y ≡ false
unfolding le
sign_below nan y a b c p q h = absurd p
sign_below (inf s) y a b c p q h = absurd p
sign_below (fin true m e) y a b c p q h = absurd (true≢false p.0)
sign_below (fin false m e) nan a b c p q h = absurd q
sign_below (fin false m e) (inf s) a b c p q h = absurd q
sign_below (fin false m e) (fin false n d) a b c p q h = absurd (true≢false (sym q.0))
sign_below (fin false m e) (fin true n d) a b c p q h =
    let x = m * up e * down d in
    let y = n * up d * down e in
    let t = eqb x y && eqb x 0 in
    is_false t (not_T t (λ k. no x y (eqb→eq x y (and_l (eqb x y) (eqb x 0) k)) (eqb→eq x 0 (and_r (eqb x y) (eqb x 0) k)) (above h)))
  where
    above : (0 < a) ⊎ (0 < b) → (0 < m * up e * down d) ⊎ (0 < n * up d * down e)
    above (inl A) = inl (mul-pos (size_above (m * up e) (down e) a c (down_pos e) A p.1) (down_pos d))
    above (inr B) = inr (mul-pos (size_above (n * up d) (down d) b c (down_pos d) B q.1) (down_pos e))

    no : (x y : ℕ) → x ≡ y → x ≡ 0 → (0 < x) ⊎ (0 < y) → ⊥
    no x y i j (inl k) = omega arith
    no x y i j (inr k) = omega arith

-- an infinity and a NaN are past every value
past_above : (t : Bool) (y : Float) (b c : ℕ) → HasValue y false b c → le (cond t (inf false) nan) y ≡ false
unfolding le
past_above true nan b c q = absurd q
past_above true (inf s) b c q = absurd q
past_above true (fin s n d) b c q = refl
past_above false y b c q = refl

past_below : (t : Bool) (x : Float) (a c : ℕ) → HasValue x false a c → le x (cond t (inf true) nan) ≡ false
unfolding le
past_below t nan a c p = absurd p
past_below t (inf s) a c p = absurd p
past_below true (fin s m e) a c p = refl
past_below false (fin s m e) a c p = refl

-- ---- the order by the bits
module _ (b c : ℕ) (k : c < infinity) where
  pub at_most : b ≤ c → le (float b) (float c) ≡ true
  at_most h =
      is_true (le (float b) (float c))
      (le_of_values (float b) (float c) (units_at b) (2 ^ 1074) (units_at c) (2 ^ 1074) (pow_pos 1074) (pow_pos 1074)
      (plain_value b (omega arith)) (plain_value c k) (mul-le-mul_right (2 ^ 1074) (grows (eq-or-lt_of_le h))))
    where
      grows : (b ≡ c) ⊎ (b < c) → units_at b ≤ units_at c
      grows (inl e) = le_of_eq (ap units_at e)
      grows (inr l) = le_of_lt (units_more b c l)

  pub not_at_most : c < b → b < sign → le (float b) (float c) ≡ false
  not_at_most h low = go (ltb b infinity) refl
    where
      no : HasValue (float b) false (units_at b) (2 ^ 1074) → T (le (float b) (float c)) → ⊥
      no v t =
          let l = values_of_le (float b) (float c) (units_at b) (units_at c) (2 ^ 1074) (pow_pos 1074) v (plain_value c k) t in
          omega (arith, units_more c b h)

      go : (t : Bool) → ltb b infinity ≡ t → le (float b) (float c) ≡ false
      go true e = is_false (le (float b) (float c)) (not_T (le (float b) (float c)) (no (plain_value b (ltb-true b infinity e))))
      go false e =
          rw (plain_past b (ltb-false b infinity e) low)
          (past_above (eqb (b % 2 ^ 52) 0) (float c) (units_at c) (2 ^ 1074) (plain_value c k))

  -- with a sign it is below c, or a NaN; but -0.0 is level with 0
  pub sign_not_above : sign ≤ b → b < 2 ^ 64 → (b ≡ sign → 0 < c) → le (float c) (float b) ≡ false
  sign_not_above h w z = go (ltb (b % sign) infinity) refl
    where
      some : (t : Bool) → ltb 0 c ≡ t → (0 < units_at c) ⊎ (0 < units_at (b % sign))
      some true e = inl (omega (arith, units_more 0 c (ltb-true 0 c e)))
      some false e =
          let n : b ≡ sign → ⊥ = λ i. omega (arith, ltb-false 0 c e, z i) in
          inr (omega (arith, units_more 0 (b % sign) (omega arith)))

      go : (t : Bool) → ltb (b % sign) infinity ≡ t → le (float c) (float b) ≡ false
      go true e =
          let v = signed_value b h (ltb-true (b % sign) infinity e) in
          sign_below (float c) (float b) (units_at c) (units_at (b % sign)) (2 ^ 1074) (plain_value c k) v (some (ltb 0 c) refl)
      go false e =
          rw (signed_past b h (ltb-false (b % sign) infinity e))
          (past_below (eqb (b % 2 ^ 52) 0) (float c) (units_at c) (2 ^ 1074) (plain_value c k))

-- ---- so a range of floats is a range of bits
-- lo ≤ b ≤ hi, of the floats
abbrev pub is_between : ℕ → ℕ → ℕ → Bool
is_between lo hi b = le (float lo) (float b) && le (float b) (float hi)

module _ (lo hi b : ℕ) where
  pub bits_between : hi < infinity → lo ≤ b → b ≤ hi → is_between lo hi b ≡ true
  bits_between k h l = rw (at_most lo b (omega arith) h, at_most b hi k l)

  pub bits_under : lo < infinity → b < lo → is_between lo hi b ≡ false
  bits_under k h = rw (not_at_most lo b (omega arith) h (omega arith))

  -- but -0.0 is in a range from 0 on
  pub bits_over : lo < infinity → hi < infinity → hi < b → b < 2 ^ 64 → (b ≡ sign → 0 < lo) → is_between lo hi b ≡ false
  bits_over k l h w z = go (ltb b sign) refl
    where
      go : (t : Bool) → ltb b sign ≡ t → is_between lo hi b ≡ false
      go true e = rw (not_at_most b hi l h (ltb-true b sign e)) (and-false (le (float lo) (float b)))
      go false e = rw (sign_not_above b lo k (ltb-false b sign e) w z)

-- bits that are at most the infinity's without their sign may be made a float
pub float_of_bits : (b : ℕ) → b % sign ≤ infinity → T (not (nan_bits binary64 b))
float_of_bits b h = subst (λ (t : Bool). T (not t)) (sym (nan_bits_above binary64 b ∙ le-ltb infinity (b % sign) h)) tt
