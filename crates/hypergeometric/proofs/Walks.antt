-- Laws of the inversion: what one turn does, where it ends, and that its whole numbers stay where a float has each of them. Assumes nothing.
use mathlib.Core.Path.{◌≡◌, refl, ap}
use mathlib.Core.Bool.{Bool, true, false}
use Prim.Native.Nat.{ℕ, zero, suc, ◌+◌, ◌-◌, ◌^◌, ◌<◌, ◌≤◌, min}
use native.Mathlib.Nat.{mul-le-mul}
use native.Mathlib.Numerals.{add-one}
use native.Mathlib.Omega.{arith}
use borrow.Author.Count.{below_none, below_more}
use lib.Ieee.{Float, binary64, sub, lt}
use lib.Ieee.Exact.{HasValue}
use Rattle.first_probability.specs.First.{as_float}
use Rattle.hypergeometric.specs.Inversion.{up_by, down_by, next_p, walk, inverted}
use Rattle.hypergeometric.specs.Inner.{Small}
use Rattle.first_probability.proofs.Factors.{whole_exact}

-- the two whole numbers of a step, as floats, are themselves to the last bit
abbrev pub StepExact : ℕ → ℕ → ℕ → ℕ → Type 0
StepExact n1 n2 k x = HasValue (as_float (up_by n1 k x)) false (up_by n1 k x) 1 × HasValue (as_float (down_by n2 k x)) false (down_by n2 k x) 1

module _ (n1 n2 k x : ℕ) (s : Small n1 n2 k) (h : x < k) where
  pub up≤ : up_by n1 k x ≤ 2 ^ 40
  up≤ = mul-le-mul {n₂ = 2 ^ 20} {m₂ = 2 ^ 20} (omega arith) (omega arith)

  pub down≤ : down_by n2 k x ≤ 2 ^ 40
  down≤ = mul-le-mul {n₂ = 2 ^ 20} {m₂ = 2 ^ 20} (omega arith) (omega arith)

  pub step_exact : StepExact n1 n2 k x
  step_exact = (whole_exact (up_by n1 k x) (omega (arith, up≤)), whole_exact (down_by n2 k x) (omega (arith, down≤)))

module _ (next : ℕ → Float → Float) where
  pub walk_more : (m x : ℕ) (u p : Float) → x < m
      → walk next (m - x) true x u p ≡ walk next (m - (x + 1)) (lt (next x p) (sub binary64 u p)) (x + 1) (sub binary64 u p) (next x p)
  unfolding walk
  walk_more m x u p h = let e : m - x ≡ suc (m - (x + 1)) = omega arith in rw e

  pub walk_below : (r x : ℕ) (u p : Float) → walk next r false x u p ≡ x
  unfolding walk
  walk_below zero x u p = refl
  walk_below (suc r) x u p = refl

  pub walk_end : (m : ℕ) (b : Bool) (x : ℕ) (u p : Float) → m ≤ x → walk next (m - x) b x u p ≡ x
  unfolding walk
  walk_end m b x u p h = let e : m - x ≡ 0 = omega arith in rw e

  -- x never falls, and never passes the bound, whatever rounding leaves of u
  pub walk_within : (r : ℕ) (b : Bool) (x : ℕ) (u p : Float) → (x ≤ walk next r b x u p) × (walk next r b x u p ≤ r + x)
  unfolding walk
  walk_within zero b x u p = (omega arith, omega arith)
  walk_within (suc r) false x u p = (omega arith, omega arith)
  walk_within (suc r) true x u p =
      let v = sub binary64 u p in
      let q = next x p in
      let ih = walk_within r (lt q v) (x + 1) v q in
      (omega arith, omega arith)

pub inverted≤ : (n1 n2 k : ℕ) (p u : Float) → inverted n1 n2 k p u ≤ min n1 k
unfolding inverted
inverted≤ n1 n2 k p u = omega (arith, (walk_within (next_p n1 n2 k) (min n1 k) (lt p u) 0 u p).1)

-- the u and the p of each x, one step after the other
module _ (n1 n2 k : ℕ) (p u : Float) where
  unfoldable pub p_at : ℕ → Float
  p_at zero = p
  p_at (suc x) = next_p n1 n2 k x (p_at x)

  unfoldable pub u_at : ℕ → Float
  u_at zero = u
  u_at (suc x) = sub binary64 (u_at x) (p_at x)

  -- x is where u first is no longer above p, or the bound: up to it every u was above its p
  pub record Stops (bound x : ℕ) : Type 0 where
    pub above : (i : ℕ) → i < x → lt (p_at i) (u_at i) ≡ true
    pub stop : x < bound → lt (p_at x) (u_at x) ≡ false

  stops_from : (r x : ℕ) (b : Bool) → lt (p_at x) (u_at x) ≡ b → ((i : ℕ) → i < x → lt (p_at i) (u_at i) ≡ true)
      → Stops (r + x) (walk (next_p n1 n2 k) r b x (u_at x) (p_at x))
  unfolding walk p_at u_at
  stops_from zero x b e h = record { above = h; stop = λ l. absurd (omega arith) }
  stops_from (suc r) x false e h = record { above = h; stop = λ l. e }
  stops_from (suc r) x true e h =
      let ep : p_at (x + 1) ≡ next_p n1 n2 k x (p_at x) = ap p_at (add-one x) in
      let eu : u_at (x + 1) ≡ sub binary64 (u_at x) (p_at x) = ap u_at (add-one x) in
      let en : r + (x + 1) ≡ suc r + x = omega arith in
      let more = below_more (λ (i : ℕ). lt (p_at i) (u_at i) ≡ true) x h e in
      simp (ep, eu, en) at (stops_from r (x + 1) (lt (p_at (x + 1)) (u_at (x + 1))) refl more)

  pub inverted_stops : Stops (min n1 k) (inverted n1 n2 k p u)
  unfolding inverted p_at u_at
  inverted_stops =
      let e : min n1 k + 0 ≡ min n1 k = omega arith in
      simp e at (stops_from (min n1 k) 0 (lt p u) refl (below_none (λ (i : ℕ). lt (p_at i) (u_at i) ≡ true)))
