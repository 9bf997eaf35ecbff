-- 31 squarings bring q to 0.5 or below exactly where q is not above 0.9999999996772282, `most_q`. Squaring keeps the order, so what q comes
-- to lies between what the floats beside the edge come to, and those are computed. Assumes nothing.
use mathlib.Core.Path.{◌≡◌, refl, sym, ap, ◌∙◌, subst}
use mathlib.Core.Bool.{Bool, true, false, not, ◌&&◌, true≢false, false≢true}
use mathlib.Core.Logic.{◌⊎◌, inl, inr}
use Prim.Native.Nat.{ℕ, zero, suc, ◌+◌, ◌-◌, ◌*◌, ◌%◌, ◌^◌, ◌≤◌, ◌<◌}
use native.Mathlib.Nat.{zero-lt-suc, add-sub_of_le, mul_assoc, mul_right_comm, mul-le-mul_right}
use native.Mathlib.Nat.{mul-lt-mul_of_pos_right, lt_of_mul-lt-mul_right}
use native.Mathlib.Omega.{arith}
use borrow.Author.Tests.{ltb-true, ltb-false, le-ltb}
use lib.Dec.{T, ltb, leb, eqb, ltb→lt, lt→ltb, lit≤}
use lib.IntN.{ℤ, pos, negsuc}
use lib.Pow.{pow-add, pow_pos, pow_mono}
use lib.Ieee.{Float, nan, inf, fin, binary64, up, down, round, sum, sub, mul, div, lt, le, fits}
use lib.Ieee.Bits.{is_true, is_false}
use lib.Ieee.Fits.{down_pos, and_l, and_r}
use lib.Ieee.Order.{round_mono}
use lib.Ieee.Positive.{num, den, den_pos, positive, above, le→cross, cross→le, between, above_of_le, mul_mono, first_pos}
use Rattle.std.proofs.lemmas.Bool.{or_left, or_parts}
use Rattle.words.specs.Words.{ratio}
use Rattle.search.specs.Squares.{half, squaring, squares}

-- the largest q that 31 squarings bring to 0.5 or below, and the float after it
abbrev pub most_q : Float
most_q = ratio 9007199251833722 (2 ^ 53)

abbrev next_q : Float
next_q = ratio 9007199251833723 (2 ^ 53)

-- ---- the order of floats above 0
-- the test is one of fractions
lt_is : (x y : Float) → T (positive x) → T (positive y) → lt x y ≡ ltb (num x * den y) (num y * den x)
unfolding lt
lt_is nan y p q = absurd p
lt_is (inf s) y p q = absurd p
lt_is (fin true m e) y p q = absurd p
lt_is (fin false m e) nan p q = absurd q
lt_is (fin false m e) (inf s) p q = absurd q
lt_is (fin false m e) (fin true n d) p q = absurd q
lt_is (fin false m e) (fin false n d) p q = refl

-- A / E < B / D ≤ C / G
strictly : (A E B D C G : ℕ) → 0 < G → A * D < B * E → B * G ≤ C * D → A * G < C * E
strictly A E B D C G g h k =
    let a : A * D * G ≡ A * G * D = mul_right_comm A D G in
    let b : B * E * G ≡ B * G * E = mul_right_comm B E G in
    let c : C * D * E ≡ C * E * D = mul_right_comm C D E in
    let x = mul-lt-mul_of_pos_right h g in
    let y = mul-le-mul_right E k in
    lt_of_mul-lt-mul_right D (omega arith)

-- and x < y ≤ z gives x < z
lt_le : (x y z : Float) → T (positive x) → T (positive y) → T (positive z) → lt x y ≡ true → T (le y z) → lt x z ≡ true
lt_le x y z p q r h k =
    lt_is x z p r
    ∙ is_true (ltb (num x * den z) (num z * den x)) (lt→ltb (num x * den z) (num z * den x)
    (strictly (num x) (den x) (num y) (den y) (num z) (den z) (den_pos z)
    (ltb-true (num x * den y) (num y * den x) (sym (lt_is x y p q) ∙ h)) (le→cross y z q r k)))

-- a float above 0 is finite, or the infinity, which no float is above
either : (x : Float) → T (above x) → T (positive x) ⊎ (x ≡ inf false)
either nan p = absurd p
either (inf true) p = absurd p
either (inf false) p = inr refl
either (fin true m e) p = absurd p
either (fin false m e) p = inl p

under_infinity : (x : Float) → T (positive x) → (lt x (inf false) ≡ true) × T (le x (inf false))
unfolding lt le
under_infinity nan p = absurd p
under_infinity (inf s) p = absurd p
under_infinity (fin true m e) p = absurd p
under_infinity (fin false m e) p = (refl, tt)

half_positive : T (positive half)
unfolding round
half_positive = tt

-- ---- from below: lo and what it is squared to are above 0.5, and so is all that is not below them
unfoldable stays : ℕ → Float → Bool
stays zero lo = positive lo && lt half lo
stays (suc n) lo = (positive lo && lt half lo) && stays n (mul binary64 lo lo)

stays_now : (n : ℕ) (lo : Float) → T (stays n lo) → T (positive lo && lt half lo)
unfolding stays
stays_now zero lo s = s
stays_now (suc n) lo s = and_l (positive lo && lt half lo) (stays n (mul binary64 lo lo)) s

stays_positive : (n : ℕ) (lo : Float) → T (stays n lo) → T (positive lo)
stays_positive n lo s = and_l (positive lo) (lt half lo) (stays_now n lo s)

stays_above : (n : ℕ) (lo : Float) → T (stays n lo) → lt half lo ≡ true
stays_above n lo s = is_true (lt half lo) (and_r (positive lo) (lt half lo) (stays_now n lo s))

-- what isn't below a float above 0.5 is above 0.5
above_half : (lo x : Float) → T (positive lo) → lt half lo ≡ true → T (le lo x) → lt half x ≡ true
above_half lo x p s h =
    elim (either x (above_of_le lo x p h)) [
      | inl q ↦ lt_le half lo x half_positive p q s h
      | inr e ↦ rw e (under_infinity half half_positive).0
    ]

-- squaring keeps the order, also where the result is the infinity
squares_up : (lo x : Float) → T (positive lo) → T (positive (mul binary64 lo lo)) → T (le lo x)
    → T (le (mul binary64 lo lo) (mul binary64 x x))
squares_up lo x p s h =
    elim (either x (above_of_le lo x p h)) [
      | inl q ↦ mul_mono binary64 lo x lo x p q p q h h
      | inr e ↦ rw e (unfold mul in (under_infinity (mul binary64 lo lo) s).1)
    ]

-- so n squarings more leave x above 0.5
rare : (n : ℕ) (lo x : Float) (k : ℕ) → T (stays n lo) → T (le lo x) → lt half (squaring n (lt half x) k x).pi ≡ true
unfolding stays squaring
rare zero lo x k s h =
    let a = above_half lo x (stays_positive 0 lo s) (stays_above 0 lo s) h in
    rw a a
rare (suc n) lo x k s h =
    let t = and_r (positive lo && lt half lo) (stays n (mul binary64 lo lo)) s in
    let p = stays_positive (suc n) lo s in
    rw (above_half lo x p (stays_above (suc n) lo s) h)
    (rare n (mul binary64 lo lo) (mul binary64 x x) (suc k) t (squares_up lo x p (stays_positive n (mul binary64 lo lo) t) h))

-- the float after the edge stays above 0.5, by computation
next_positive : T (positive next_q)
unfolding round
next_positive = tt

next_stays : T (stays 30 (mul binary64 next_q next_q))
unfolding stays round mul lt
next_stays = tt

-- ---- from above: n squarings bring hi to 0.5 or below, and so all that is not above it
unfoldable pub ends : ℕ → Float → Bool
ends zero hi = positive hi && not (lt half hi)
ends (suc n) hi = positive hi && ends n (mul binary64 hi hi)

ends_positive : (n : ℕ) (hi : Float) → T (ends n hi) → T (positive hi)
unfolding ends
ends_positive zero hi s = and_l (positive hi) (not (lt half hi)) s
ends_positive (suc n) hi s = and_l (positive hi) (ends n (mul binary64 hi hi)) s

-- n squarings more bring x to 0.5 or below, since x is 0.5 or below, or at most some hi that they bring there
pub record Within (n : ℕ) (x : Float) : Type 0 where
  pub hi : Float
  pub ended : T (ends n hi)
  pub below : lt half x ≡ true → T (le x hi)

le_of_lt : (x y : Float) → lt x y ≡ true → T (le x y)
unfolding le
le_of_lt x y h = subst T (sym (or_left (lt x y) _ h)) tt

-- where x is above 0.5, it is finite
within_positive : (n : ℕ) (x : Float) (w : Within n x) → lt half x ≡ true → T (positive x)
within_positive n x w h = between half x w.hi half_positive (ends_positive n w.hi w.ended) (le_of_lt half x h) (w.below h)

-- and a squaring more leaves one less to do
pub within_again : (n : ℕ) (x : Float) → Within (suc n) x → lt half x ≡ true → Within n (mul binary64 x x)
unfolding ends
within_again n x w h =
    let p = within_positive (suc n) x w h in
    let q = ends_positive (suc n) w.hi w.ended in
    record {
      hi = mul binary64 w.hi w.hi;
      ended = and_r (positive w.hi) (ends n (mul binary64 w.hi w.hi)) w.ended;
      below = λ l. mul_mono binary64 x w.hi x w.hi p q p q (w.below h) (w.below h);
    }

-- where none is left, x is 0.5 or below
within_ends : (x : Float) → Within 0 x → lt half x ≡ false
unfolding ends
within_ends x w = go (lt half x) refl
  where
    go : (b : Bool) → lt half x ≡ b → b ≡ false
    go false e = refl
    go true e =
        let p = within_positive 0 x w e in
        let q = ends_positive 0 w.hi w.ended in
        sym (lt_le half x w.hi half_positive p q e (w.below e))
        ∙ is_false (lt half w.hi) (and_r (positive w.hi) (not (lt half w.hi)) w.ended)

-- so where x is above 0.5, a squaring is left
pub one_left : (n : ℕ) (x : Float) → Within n x → lt half x ≡ true → 0 < n
one_left zero x w h = absurd (true≢false (sym h ∙ within_ends x w))
one_left (suc n) x w h = zero-lt-suc n

-- so what the squarings come to isn't above 0.5
not_rare : (n : ℕ) (b : Bool) (x : Float) (k : ℕ) → lt half x ≡ b → Within n x → lt half (squaring n b k x).pi ≡ false
unfolding squaring
not_rare zero false x k e w = e
not_rare zero true x k e w = within_ends x w
not_rare (suc n) false x k e w = e
not_rare (suc n) true x k e w = not_rare n (lt half (mul binary64 x x)) (mul binary64 x x) (suc k) refl (within_again n x w e)

-- 31 squarings bring the edge there, by computation
most_positive : T (positive most_q)
unfolding round
most_positive = tt

most_ends : T (ends 30 (mul binary64 most_q most_q))
unfolding ends round mul lt
most_ends = tt

-- a float that isn't below 1/4 is a NaN or above 0
not_low : (x : Float) → lt x (ratio 1 4) ≡ false → (x ≡ nan) ⊎ T (above x)
unfolding lt round
not_low nan h = inl refl
not_low (inf true) h = absurd (true≢false h)
not_low (inf false) h = inr tt
not_low (fin true m e) h = let l = ltb-false 0 (m * up e * 4 + 1 * 1 * down e) h in let d = down_pos e in absurd (omega arith)
not_low (fin false m e) h =
    let l = ltb-false (m * up e * 4) (1 * 1 * down e) h in
    let d = down_pos e in
    inr (lt→ltb 0 m (first_pos m (up e) (omega arith)))

-- a float above 0 that isn't above the edge is at most the edge
not_high : (x : Float) → T (above x) → lt most_q x ≡ false → T (positive x) × T (le x most_q)
unfolding round
not_high x p h =
    elim (either x p) [
      | inl q ↦ (q, cross→le x most_q q tt (ltb-false (num most_q * den x) (num x * den most_q) (sym (lt_is most_q x tt q) ∙ h)))
      | inr e ↦ absurd (true≢false (sym (under_infinity most_q tt).0 ∙ sym (ap (lt most_q) e) ∙ h))
    ]

-- so 31 squarings bring a q there that isn't above the edge
pub most_within : (q : Float) → lt most_q q ≡ false → lt q (ratio 1 4) ≡ false → Within 30 (mul binary64 q q)
unfolding mul lt
most_within q a b = record { hi = mul binary64 most_q most_q; ended = most_ends; below = λ l. at_most l (not_low q b) }
  where
    at_most : lt half (mul binary64 q q) ≡ true → (q ≡ nan) ⊎ T (above q) → T (le (mul binary64 q q) (mul binary64 most_q most_q))
    at_most l (inl e) = absurd (false≢true (rw e at l))
    at_most l (inr p) = let h = not_high q p a in mul_mono binary64 q most_q q most_q h.0 most_positive h.0 most_positive h.1 h.1

pub not_too_rare : (q : Float) → lt most_q q ≡ false → lt q (ratio 1 4) ≡ false → lt half (squares q).pi ≡ false
unfolding squares
not_too_rare q a b = not_rare 30 (lt half (mul binary64 q q)) (mul binary64 q q) 1 refl (most_within q a b)

-- ---- no float lies between the edge and the float after it: from 1/2 on the floats below 1 are the multiples of 2^-53
multiples : (m : ℕ) (e : ℤ) → m < 2 ^ 53 → 4503599625916861 * 1 * down e < m * up e * 2 ^ 52
    → 9007199251833723 * 1 * down e ≤ m * up e * 2 ^ 53
multiples m (pos k) l h = omega arith
multiples m (negsuc k) l h = go (ltb 53 (suc k)) refl
  where
    go : (b : Bool) → ltb 53 (suc k) ≡ b → 9007199251833723 * 1 * 2 ^ suc k ≤ m * 1 * 2 ^ 53
    go true e = let d = pow_mono {i = 54} {j = suc k} (ltb-true 53 (suc k) e) in absurd (omega arith)
    go false e =
        let d = 2 ^ suc k in
        let j = 2 ^ (53 - suc k) in
        let i = add-sub_of_le (ltb-false 53 (suc k) e) in
        let s : 2 ^ 53 ≡ d * j = ap (λ (n : ℕ). 2 ^ n) (sym i) ∙ pow-add 2 (suc k) (53 - suc k) in
        let t : m * 2 ^ 53 ≡ m * j * d = ap (λ (n : ℕ). m * n) s ∙ sym (mul_assoc m d j) ∙ mul_right_comm m d j in
        let x : 9007199251833722 < m * j = lt_of_mul-lt-mul_right d (omega arith) in
        omega (arith, mul-le-mul_right d x)

-- a float has 53 digits at most
few_digits : (s : Bool) (m : ℕ) (e : ℤ) → T (fits binary64 (fin s m e)) → m < 2 ^ 53
unfolding fits
few_digits s zero e h = pow_pos 53
few_digits s (suc m) e h =
    let a = eqb (suc m % 2) 1 in
    let b = ltb (suc m) (2 ^ 53) in
    let c = leb (down e) (2 ^ 1074) in
    ltb→lt (suc m) (2 ^ 53) (and_r a b (and_l (a && b) c (and_l (a && b && c) (ltb (suc m * up e) (2 ^ 1024 * down e)) h)))

-- so what is above the edge is at least the float after it
gap : (q : Float) → T (fits binary64 q) → lt most_q q ≡ true → T (le next_q q)
unfolding lt le round
gap nan f h = absurd (false≢true h)
gap (inf true) f h = absurd (false≢true h)
gap (inf false) f h = tt
gap (fin true m e) f h = absurd (false≢true h)
gap (fin false m e) f h =
    let l = ltb-true (4503599625916861 * 1 * down e) (m * up e * 2 ^ 52) h in
    let d = down_pos e in
    cross→le next_q (fin false m e) tt (lt→ltb 0 m (first_pos m (up e) (omega arith))) (multiples m e (few_digits false m e f) l)

-- so 31 squarings leave a q above the edge above 0.5
pub too_rare : (q : Float) → T (fits binary64 q) → lt most_q q ≡ true → lt half (squares q).pi ≡ true
unfolding squares
too_rare q f h =
    rare 30 (mul binary64 next_q next_q) (mul binary64 q q) 1 next_stays
    (squares_up next_q q next_positive (stays_positive 30 (mul binary64 next_q next_q) next_stays) (gap q f h))

-- ---- where p is below 2/3, 1 - p is not below 1/4
not_below : (x : Float) → T (le (ratio 1 4) x) → lt x (ratio 1 4) ≡ false
unfolding lt round
not_below x h =
    elim (either x (above_of_le (ratio 1 4) x tt h)) [
      | inl q ↦ lt_is x (ratio 1 4) q tt ∙ le-ltb (num x * 4) (1 * den x) (le→cross (ratio 1 4) x tt q h)
      | inr e ↦ rw e
    ]

-- a fraction from 1/4 on isn't rounded below it
quarter_rounded : (a c : ℕ) → 0 < c → c ≤ a * 4 → lt (ratio a c) (ratio 1 4) ≡ false
quarter_rounded a c C h = not_below (ratio a c) (round_mono binary64 1 4 a c (lit≤ tt) C (omega arith))

-- 1, and the float nearest to 2/3
abbrev one : Float
one = fin false 1 (pos 0)

abbrev two_thirds : Float
two_thirds = fin false 6004799503160661 (negsuc 52)

-- 1 - p for a p below 0 and for one from 0 to 1
module _ (n : ℕ) (d : ℤ) where
  one_more : sub binary64 one (fin true n d) ≡ ratio (1 * down d + n * up d * 1) (1 * down d)
  unfolding sub sum
  one_more = refl

  one_less : n * up d * 1 ≤ 1 * down d → sub binary64 one (fin false n d) ≡ ratio (1 * down d - n * up d * 1) (1 * down d)
  unfolding sub sum
  one_less h = rw (le-ltb (1 * down d) (n * up d * 1) h)

  at_most_two_thirds : le two_thirds (fin false n d) ≡ false → n * up d * 2 ^ 53 ≤ 6004799503160661 * 1 * down d
  unfolding le
  at_most_two_thirds h =
      let a = 6004799503160661 * 1 * down d in
      let b = n * up d * 2 ^ 53 in
      ltb-false a b (or_parts (ltb a b) _ h).0

from_one : (p : Float) → le two_thirds p ≡ false → lt (sub binary64 one p) (ratio 1 4) ≡ false
unfolding lt le sub
from_one nan h = refl
from_one (inf true) h = refl
from_one (inf false) h = absurd (true≢false h)
from_one (fin true n d) h =
    let c = down_pos d in
    rw (one_more n d) (quarter_rounded (1 * down d + n * up d * 1) (1 * down d) (omega arith) (omega arith))
from_one (fin false n d) h =
    let c = down_pos d in
    let l = at_most_two_thirds n d h in
    rw (one_less n d (omega arith)) (quarter_rounded (1 * down d - n * up d * 1) (1 * down d) (omega arith) (omega arith))

pub quarter_left : (p : Float) → le (div binary64 (ratio 2 1) (ratio 3 1)) p ≡ false → lt (sub binary64 (ratio 1 1) p) (ratio 1 4) ≡ false
unfolding div round
quarter_left p h = from_one p h
