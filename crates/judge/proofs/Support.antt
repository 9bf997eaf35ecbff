-- A count that a tray can't have, told by three tests and a difference. Assumes nothing.
use mathlib.Core.Path.{◌≡◌, refl}
use mathlib.Core.Bool.{Bool, true, false, and-false}
use Prim.Native.Nat.{ℕ, ◌-◌, ◌≤◌, ◌<◌}
use native.Mathlib.Omega.{arith}
use native.Mathlib.Decide.{dec_le}
use lib.Dec.{leb, ltb}
use borrow.Author.Tests.{ltb-true, ltb-false, le-leb, lt-leb}
use Rattle.hypergeometric.specs.Reduction.{least, most, InSupport}
use Rattle.judge.specs.Judging.{outside_tray}

module _ (N K n c : ℕ) where
  -- more than the most is outside
  pub above : most K n < c → true ≡ outside_tray N K n c
  above h = rw (lt-leb c (most K n) h, and-false (leb (least N K n) c))

  -- less than the least is outside
  pub below : c < least N K n → true ≡ outside_tray N K n c
  below h = rw (lt-leb (least N K n) c h)

  -- from the least to the most is not
  within : least N K n ≤ c → c ≤ most K n → false ≡ outside_tray N K n c
  within l m = rw (le-leb (least N K n) c l, le-leb c (most K n) m)

  -- what isn't in the support is outside
  pub outside : (InSupport N K n c → ⊥) → true ≡ outside_tray N K n c
  outside f = elim (dec_le (least N K n) c) [
    | yes l ↦ elim (dec_le c (most K n)) [
      | yes m ↦ absurd (f (l, m))
      | no h ↦ above (omega arith)
    ]
    | no h ↦ below (omega arith)
  ]

  -- up to the sample and the marked, a count is outside where it leaves more of the sample than are unmarked
  pub left : c ≤ n → c ≤ K → K ≤ N → ltb (N - K) (n - c) ≡ outside_tray N K n c
  left s m f = go (ltb (N - K) (n - c)) refl
    where
      go : (b : Bool) → ltb (N - K) (n - c) ≡ b → b ≡ outside_tray N K n c
      go true e = below (omega (arith, ltb-true (N - K) (n - c) e))
      go false e = within (omega (arith, ltb-false (N - K) (n - c) e)) (omega arith)
