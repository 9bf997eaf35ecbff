-- A word has 64 leading zeros exactly where it is 0. Assumes nothing.
use mathlib.Core.Path.{◌≡◌, refl, ap, ◌∙◌}
use Prim.Native.Nat.{ℕ, zero, suc, ◌/◌, ◌≤◌, ◌<◌}
use native.Mathlib.Omega.{arith}
use lib.Count.{count_leading_zeros, leading_of_zero, leading_le}

pub fewer_zeros : (w : ℕ) → count_leading_zeros 64 w < 64 → w ≡ 0 → ⊥
fewer_zeros w h e = let z : count_leading_zeros 64 w ≡ 64 = ap (count_leading_zeros 64) e ∙ leading_of_zero 64 in omega arith

pub zeros_fewer : (w : ℕ) → (w ≡ 0 → ⊥) → count_leading_zeros 64 w < 64
unfolding count_leading_zeros
zeros_fewer zero f = absurd (f refl)
zeros_fewer (suc w) f = let h = leading_le 63 (suc w / 2) in omega arith

pub all_zeros : (w : ℕ) → 64 ≤ count_leading_zeros 64 w → w ≡ 0
all_zeros zero k = refl
all_zeros (suc w) k = let h = zeros_fewer (suc w) (λ e. omega arith) in absurd (omega arith)
