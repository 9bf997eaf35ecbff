-- Laws of the first probability's steps: one factor more, the last, and that no whole number is lost. Assumes nothing.
use mathlib.Core.Path.{◌≡◌}
use mathlib.Core.Bool.{false}
use Prim.Native.Nat.{ℕ, suc, ◌+◌, ◌-◌, ◌^◌, ◌<◌, ◌≤◌}
use native.Mathlib.Omega.{arith}
use lib.Ieee.{Float, binary64, of_int}
use lib.Ieee.Exact.{HasValue}
use lib.Ieee.Back.{round_whole}
use Rattle.first_probability.specs.First.{as_float, at_factor, factors}

-- a whole number up to 2^53 is a float, to the last bit
pub whole_exact : (n : ℕ) → n ≤ 2 ^ 53 → HasValue (as_float n) false n 1
unfolding of_int
whole_exact n h = round_whole binary64 false n h

module _ (min_top min_bottom max_top max_bottom : ℕ) where
  pub factors_more : (last i : ℕ) (p : Float) → i < last
      → factors min_top min_bottom max_top max_bottom (last - i) i p
      ≡ factors min_top min_bottom max_top max_bottom (last - (i + 1)) (i + 1) (at_factor min_top min_bottom max_top max_bottom (i + 1) p)
  unfolding factors
  factors_more last i p h = let e : last - i ≡ suc (last - (i + 1)) = omega arith in rw e

  pub factors_end : (last i : ℕ) (p : Float) → last ≤ i → factors min_top min_bottom max_top max_bottom (last - i) i p ≡ p
  unfolding factors
  factors_end last i p h = let e : last - i ≡ 0 = omega arith in rw e
