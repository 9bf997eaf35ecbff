-- The power's steps are the rules': r becomes r·a where b is odd (`odd_times`); where the halved b is 0 the answer is r, else a becomes a·a and
-- all is repeated. So the bound on the repeats in `halved` decides nothing. Assumes nothing.
use mathlib.Core.Path.{◌≡◌, refl, sym, ◌∙◌}
use Prim.Native.Nat.{ℕ, zero, suc, ◌/◌, ◌≤◌, ◌<◌}
use native.Mathlib.Nat.{not-suc-le-zero}
use native.Mathlib.Decide.{le_ind}
use native.Mathlib.Omega.{arith}
use lib.Ieee.{Float, binary64, mul}
use Rattle.search.specs.Power.{odd_times, halved, power_of}

halved_zero : (n : ℕ) (r a : Float) → halved n r a 0 ≡ r
unfolding halved
halved_zero zero r a = refl
halved_zero (suc n) r a = refl

-- from h repeats on, one more changes nothing
one_more : (n h : ℕ) (r a : Float) → h ≤ n → halved (suc n) r a h ≡ halved n r a h
unfolding halved
one_more zero zero r a p = refl
one_more zero (suc h) r a p = absurd (not-suc-le-zero p)
one_more (suc n) zero r a p = refl
one_more (suc n) (suc h) r a p = one_more n (suc h / 2) _ _ (omega arith)

enough : (n h : ℕ) (r a : Float) → h ≤ n → halved n r a h ≡ halved h r a h
enough n h r a p = le_ind (λ (m : ℕ). halved m r a h ≡ halved h r a h) refl (λ m k e. one_more m h r a k ∙ e) n p

repeated : (b h : ℕ) (r a : Float) → b / 2 ≡ h → 0 < h → halved b (odd_times r a b) a h ≡ power_of (odd_times r a b) (mul binary64 a a) h
unfolding power_of halved
repeated zero h r a e p = absurd (omega arith)
repeated (suc b) zero r a e p = absurd (omega arith)
repeated (suc b) (suc h) r a e p =
    let s = mul binary64 a a in
    let x = odd_times (odd_times r a (suc b)) s (suc h) in
    enough b (suc h / 2) x s (omega arith) ∙ sym (enough (suc h) (suc h / 2) x s (omega arith))

module _ (r a : Float) (b : ℕ) where
  pub power_ends : b / 2 ≡ 0 → power_of r a b ≡ odd_times r a b
  unfolding power_of
  power_ends e = rw e (halved_zero b (odd_times r a b) a)

  pub power_again : (b / 2 ≡ 0 → ⊥) → power_of r a b ≡ power_of (odd_times r a b) (mul binary64 a a) (b / 2)
  unfolding power_of
  power_again f = repeated b (b / 2) r a refl (omega arith)
