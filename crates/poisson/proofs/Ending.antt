-- Words can follow any tape with which the Poisson draw ends: the fraction of the word 0 brings any product down. Assumes nothing.
use mathlib.Core.Path.{◌≡◌, refl, sym, ap, ◌∙◌, subst}
use mathlib.Core.Bool.{Bool, true, false}
use mathlib.Core.List.{[], ◌∷◌}
use Prim.Native.Nat.{◌+◌, ◌*◌, ◌^◌}
use native.Mathlib.Nat.{zero-mul, mul-zero}
use native.Mathlib.Omega.{arith}
use lib.Dec.{T}
use lib.IntN.{pos}
use lib.Pow.{pow_pos}
use lib.Ieee.{Float, nan, inf, fin, binary64, up, down, unlike, round, mul, lt}
use lib.Ieee.Fits.{down_pos}
use lib.Ieee.Positive.{above, above_of_le}
use lib.Ieee.Scale.{round_same}
use borrow.Author.Tests.{le-ltb}
use Rattle.words.specs.Words.{ratio, fraction_of}
use Rattle.words.proofs.PastEnd.{Closes, closes_done}
use Rattle.poisson.specs.Poisson.{Product, none, product, knuth_rule, in_range}
use Rattle.poisson.proofs.Range.{range_low}

-- a zero of either sign, and what is no number, are not above a threshold of the range
abbrev signed_zero : Bool → Float
signed_zero s = fin s 0 (pos 0)

not_under_zero : (x : Float) (s : Bool) → T (above x) → lt x (signed_zero s) ≡ false
unfolding lt
not_under_zero nan s a = absurd a
not_under_zero (inf true) s a = absurd a
not_under_zero (inf false) s a = refl
not_under_zero (fin true m e) s a = absurd a
not_under_zero (fin false m e) true a = refl
not_under_zero (fin false m e) false a = le-ltb (m * up e * 1) (0 * 1 * down e) (omega (arith, zero-mul (down e)))

not_under_nan : (x : Float) → lt x nan ≡ false
unfolding lt
not_under_nan nan = refl
not_under_nan (inf s) = refl
not_under_nan (fin s m e) = refl

-- any product by 0 is a zero or no number
times_zero : (x p : Float) → T (above x) → lt x (mul binary64 p (fraction_of 0)) ≡ false
unfolding mul fraction_of round
times_zero x nan a = not_under_nan x
times_zero x (inf s) a = not_under_nan x
times_zero x (fin s m e) a =
    ap (lt x) (round_same binary64 (unlike s false) (m * up e * (0 * 1)) (down e * 1) 0 1 (omega (arith, down_pos e)) (pow_pos 0) (omega (arith, mul-zero (m * up e))))
    ∙ not_under_zero x (unlike s false) a

module _ (x : Float) (inside : in_range x ≡ true) where
  is_above : T (above x)
  unfolding round
  is_above = above_of_le (ratio 1 (2 ^ 18)) x tt (subst (λ (b : Bool). T b) (sym (range_low x inside)) tt)

  -- so the word 0 ends the draw in any state
  pub knuth_closes : (s : Product) → Closes (knuth_rule x) s (0 ∷ [])
  unfolding fraction_of round
  knuth_closes none = closes_done (knuth_rule x) none 0 [] 0 (rw (not_under_zero x false is_above))
  knuth_closes (product p n) = closes_done (knuth_rule x) (product p n) 0 [] (n + 1) (rw (times_zero x p is_above))
