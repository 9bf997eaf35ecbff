-- The range of a threshold (RULES, 'Poisson'): its ends, and the bits of the floats in it. Assumes nothing.
use mathlib.Core.Path.{◌≡◌, refl, ◌∙◌}
use mathlib.Core.Bool.{true, false, ◌&&◌, and-eq-true_iff}
use Prim.Native.Nat.{ℕ, ◌*◌, ◌^◌, ◌≤◌, ◌<◌}
use native.Mathlib.Omega.{arith}
use lib.Pow.{pow_pos}
use lib.Ieee.{Float, nan, binary64, round, le, of_bits}
use lib.Ieee.Bits.{is_true}
use lib.Ieee.Order.{round_mono}
use Rattle.words.specs.Words.{ratio}
use Rattle.words.proofs.Patterns.{bits_between, bits_under, bits_over}
use Rattle.poisson.specs.Poisson.{in_range}

-- a NaN is outside the range; both its ends are inside, and the next floats past them are not
pub nan_outside : in_range nan ≡ false
unfolding in_range le round
nan_outside = refl

pub range_ends : (in_range (ratio 1 (2 ^ 18)) ≡ true) × (in_range (ratio 1 1) ≡ true)
unfolding in_range le round
range_ends = (refl, refl)

pub range_past : (in_range (of_bits binary64 0x3ecf_ffff_ffff_ffff) ≡ false) × (in_range (of_bits binary64 0x3ff0_0000_0000_0001) ≡ false)
unfolding in_range le round of_bits
range_past = (refl, refl)

-- of T by its bits: those of 2^-18 and of 1, and the bits between them are the range
abbrev lowest : ℕ
lowest = 0x3ed0_0000_0000_0000

abbrev highest : ℕ
highest = 0x3ff0_0000_0000_0000

range_is : (x : Float) → in_range x ≡ (le (of_bits binary64 lowest) x && le x (of_bits binary64 highest))
unfolding in_range of_bits round
range_is x = refl

module _ (bits : ℕ) where
  pub bits_inside : lowest ≤ bits → bits ≤ highest → in_range (of_bits binary64 bits) ≡ true
  bits_inside h k = range_is (of_bits binary64 bits) ∙ bits_between lowest highest bits (omega arith) h k

  pub bits_below : bits < lowest → in_range (of_bits binary64 bits) ≡ false
  bits_below h = range_is (of_bits binary64 bits) ∙ bits_under lowest highest bits (omega arith) h

  pub bits_above : highest < bits → bits < 2 ^ 64 → in_range (of_bits binary64 bits) ≡ false
  bits_above h w = range_is (of_bits binary64 bits) ∙ bits_over lowest highest bits (omega arith) (omega arith) h w (λ e. omega arith)

-- what is in the range is at least 2^-18
pub range_low : (x : Float) → in_range x ≡ true → le (ratio 1 (2 ^ 18)) x ≡ true
unfolding in_range
range_low x e = ((and-eq-true_iff (le (ratio 1 (2 ^ 18)) x) (le x (ratio 1 1))).0 e).0

-- a fraction from 2^-18 to 1, rounded, is in the range
pub ratio_inside : (a b : ℕ) → 0 < b → b ≤ 2 ^ 18 * a → a ≤ b → in_range (ratio a b) ≡ true
unfolding in_range
ratio_inside a b pos low high =
    rw (
      is_true (le (ratio 1 (2 ^ 18)) (ratio a b)) (round_mono binary64 1 (2 ^ 18) a b (pow_pos 18) pos (omega arith)),
      is_true (le (ratio a b) (ratio 1 1)) (round_mono binary64 a b 1 1 pos (pow_pos 0) (omega arith)),
    )
