-- Entry one of docs/DIFFERENCES.md: the Rust's walk to k is the walk here up to min(n1, k), and what it lands on past there is outside the
-- support. So there is no other difference between the two. Assumes nothing.
use mathlib.Core.Path.{◌≡◌, refl, ap, ◌∙◌}
use mathlib.Core.Bool.{Bool, true, false}
use Prim.Native.Nat.{ℕ, zero, suc, ◌+◌, ◌-◌, ◌^◌, ◌≤◌, ◌<◌, min}
use native.Mathlib.Omega.{arith}
use borrow.Author.Tests.{lt-ltb, le-ltb}
use lib.IntN.{pos, negsuc, ◌-ℤ◌}
use lib.Ieee.{Float, binary64, sub, lt}
use Rattle.words.specs.Words.{fraction_of}
use Rattle.words.specs.Refusals.{NoneHolds}
use Rattle.hypergeometric.specs.Reduction.{population_cap, landing, reduction, InSupport}
use Rattle.hypergeometric.specs.SetUp.{set_up, tray_refusals}
use Rattle.hypergeometric.specs.Inversion.{next_p, walk, inverted}
use Rattle.hypergeometric.specs.Hypergeometric.{counted}
use Rattle.hypergeometric.specs.RustWalk.{rust_next_p, rust_walk, rust_x, rust_landing, cast, rust_counted, EntryOne}
use Rattle.hypergeometric.proofs.Reducing.{by_case, k≤n2}
use Rattle.hypergeometric.proofs.Walks.{walk_within}
use Rattle.hypergeometric.proofs.Settling.{accepted_K, accepted_n, accepted_N}

-- a difference of two numbers, by which is the greater
minus : (a b : ℕ) → b ≤ a → pos a -ℤ pos b ≡ pos (a - b)
minus a zero h = ap pos (omega arith)
minus a (suc b) h = rw (le-ltb a (suc b) h)

minus_below : (a b : ℕ) → a < b → pos a -ℤ pos b ≡ negsuc (b - suc a)
minus_below a zero h = absurd (omega arith)
minus_below a (suc b) h = rw (lt-ltb a (suc b) h)

-- ---- the walk
module _ (n1 n2 k : ℕ) (kn : k ≤ n2) where
  -- a step from an x up to both n1 and k is the step here
  next_same : (x : ℕ) (p : Float) → x ≤ n1 → x ≤ k → rust_next_p n1 n2 k x p ≡ next_p n1 n2 k x p
  unfolding rust_next_p next_p
  next_same x p h j = rw (minus n1 x h, minus k x j, minus n2 k kn)

  -- what two walks come to, the one here with its bound r steps ahead: the same x, or the bound, where the Rust's passes it
  abbrev Beside : ℕ → ℕ → ℕ → Type 0
  Beside bound here rust = (rust ≤ bound → rust ≡ here) × (bound < rust → here ≡ bound)

  beside : (r more : ℕ) (b : Bool) (x : ℕ) (u p : Float) → r ≤ more → r + x ≤ n1 → r + x ≤ k
      → Beside (r + x) (walk (next_p n1 n2 k) r b x u p) (walk (rust_next_p n1 n2 k) more b x u p)
  unfolding walk
  beside zero more b x u p f h j = (λ l. omega (arith, (walk_within (rust_next_p n1 n2 k) more b x u p).0), λ l. omega arith)
  beside (suc r) zero b x u p f h j = absurd (omega arith)
  beside (suc r) (suc more) false x u p f h j = (λ l. refl, λ l. absurd (omega arith))
  beside (suc r) (suc more) true x u p f h j =
      let q = next_p n1 n2 k x p in
      let v = sub binary64 u p in
      let e : r + (x + 1) ≡ suc r + x = omega arith in
      rw (next_same x p (omega arith) (omega arith), ← e) (beside r more (lt q v) (x + 1) v q (omega arith) (omega arith) (omega arith))

-- ---- the landing
-- what wraps below 0 is above every count
wrapped : (o x top : ℕ) → x ≤ population_cap → top ≤ population_cap → 2 ^ 64 - suc (x - suc o) ≤ top → ⊥
wrapped o x top h j s = omega arith

module _ (N K n : ℕ) (hK : K ≤ N) (hn : n ≤ N) (hN : N ≤ population_cap) where
  -- up to the bound the cast changes nothing
  cast_same : (x : ℕ) → x ≤ min (reduction N K n).n1 (reduction N K n).k
      → cast (rust_landing (reduction N K n).sign (reduction N K n).offset x) ≡ landing (reduction N K n).sign (reduction N K n).offset x
  cast_same x h = by_case N K n
      (λ r. x ≤ min r.n1 r.k → cast (rust_landing r.sign r.offset x) ≡ landing r.sign r.offset x)
      (λ a b h. ap cast (minus n x (omega arith))) (λ a b h. refl) (λ a b h. refl) (λ a b h. ap cast (minus (0 + K) x (omega arith))) h

  -- past it the count is below the least, above the most, or wrapped
  cast_past : (x : ℕ) → min (reduction N K n).n1 (reduction N K n).k < x → x ≤ (reduction N K n).k
      → InSupport N K n (cast (rust_landing (reduction N K n).sign (reduction N K n).offset x)) → ⊥
  cast_past x h j = by_case N K n
      (λ r. min r.n1 r.k < x → x ≤ r.k → InSupport N K n (cast (rust_landing r.sign r.offset x)) → ⊥)
      (λ a b h j. rw (minus n x (omega arith)) (λ s. omega arith))
      (λ a b h j s. omega arith)
      (λ a b h j s. omega arith)
      (λ a b h j. rw (minus_below (0 + K) x (omega arith)) (λ s. wrapped (0 + K) x (min n K) (omega arith) (omega arith) s.1)) h j

-- ---- together: of every tray that is accepted, and every word
pub entry_one : (N K n : ℕ) → NoneHolds (tray_refusals N K n) → (w : ℕ) → EntryOne N K n (set_up N K n) w
unfolding set_up rust_walk rust_x rust_counted counted inverted
entry_one N K n none w =
    let hK = accepted_K N K n none in
    let hn = accepted_n N K n none in
    let hN = accepted_N N K n none in
    let h = set_up N K n in
    let u = fraction_of w in
    let p = h.first in
    let bound = min h.n1 h.k in
    let kn = k≤n2 N K n hK hn in
    let both = beside h.n1 h.n2 h.k kn bound h.k (lt p u) 0 u p (omega arith) (omega arith) (omega arith) in
    let top : rust_x h w ≤ h.k = omega (arith, (walk_within (rust_next_p h.n1 h.n2 h.k) h.k (lt p u) 0 u p).1) in
    record {
      same = λ l. cast_same N K n hK hn hN (rust_x h w) l ∙ ap (landing h.sign h.offset) (both.0 (omega arith));
      past = λ l. cast_past N K n hK hn hN (rust_x h w) l top;
      at_bound = λ l. omega (arith, both.1 (omega arith));
    }
