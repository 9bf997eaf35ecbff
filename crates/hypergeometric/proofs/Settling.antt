-- Laws of the set-up: what an accepted tray's numbers keep to, what a record that the set-up gave is, and that its answer's reading loses
-- nothing. Assumes nothing.
use mathlib.Core.Path.{◌≡◌, sym, ap, ◌∙◌, subst}
use Prim.Native.Nat.{ℕ, ◌+◌, ◌≤◌, min}
use native.Mathlib.Nat.{mul-le-mul}
use native.Mathlib.Omega.{arith}
use borrow.Author.Tests.{ltb-false}
use Rattle.std.proofs.Common.{Ok, Err}
use Rattle.words.specs.Outcome.{drawn}
use Rattle.words.specs.Refusals.{NoneHolds}
use Rattle.words.specs.Paper.{number_of}
use Rattle.words.proofs.Reading.{refused_not_drawn}
use Rattle.words.proofs.Exactly.{drawn_exactly}
use Rattle.words.proofs.OneAnswer.{one_refusal}
use Rattle.hypergeometric.specs.declared.Hypergeometric.{Hypergeometric}
use Rattle.hypergeometric.specs.Reduction.{population_cap, reduction}
use Rattle.hypergeometric.specs.Inner.{Lands, Sizes}
use Rattle.hypergeometric.specs.SetUp.{SetUp, set_up, tray_refusals, settled, set_up_paper, FromSetUp}
use Rattle.hypergeometric.proofs.Reducing.{n1+n2, k≤n2, lands}

-- the sizes of the reduction's numbers
pub sizes : (N K n : ℕ) → K ≤ N → n ≤ N → N ≤ population_cap → Sizes N (reduction N K n).n1 (reduction N K n).n2 (reduction N K n).k
sizes N K n hK hn h =
    let s = n1+n2 N K n hK hn in
    let l = k≤n2 N K n hK hn in
    let r = reduction N K n in
    record {
      n1≤ = omega arith;
      n2≤ = omega arith;
      k≤ = omega arith;
      product = omega (arith, mul-le-mul {n₁ = r.k + 1} {m₁ = r.n1 + 1} {n₂ = 1048577} {m₂ = 1048577} (omega arith) (omega arith));
    }

-- ---- a tray of which nothing is refused
module _ (N K n : ℕ) (none : NoneHolds (tray_refusals N K n)) where
  pub accepted_K : K ≤ N
  unfolding tray_refusals
  accepted_K = ltb-false N K none.0

  pub accepted_n : n ≤ N
  unfolding tray_refusals
  accepted_n = ltb-false N n none.1.0

  pub accepted_N : N ≤ population_cap
  unfolding tray_refusals
  accepted_N = ltb-false population_cap N none.1.1.0

  pub set_up_lands : (x : ℕ) → x ≤ min (set_up N K n).n1 (set_up N K n).k → Lands (set_up N K n).sign (set_up N K n).offset x
  unfolding set_up
  set_up_lands = let h = accepted_N in lands N K n accepted_K accepted_n (omega arith)

-- ---- a record that the set-up gave
-- whatever answer the contract of `set_up` allows, its record is one
pub ready_from : (N K n : ℕ) (a : SetUp) (h : Hypergeometric) → set_up_paper a ≡ settled N K n → a ≡ Ok h → FromSetUp h
ready_from N K n a h e r = record { N = N; K = K; n = n; gives = sym e ∙ ap set_up_paper r }

module _ (h : Hypergeometric) (f : FromSetUp h) where
  from_given : NoneHolds (tray_refusals f.N f.K f.n) × (drawn (set_up f.N f.K f.n) 0 ≡ drawn h 0)
  unfolding settled
  from_given = (drawn_exactly (tray_refusals f.N f.K f.n) (drawn (set_up f.N f.K f.n) 0) h 0).0 f.gives

  -- nothing of its tray is refused
  pub kept_none : NoneHolds (tray_refusals f.N f.K f.n)
  kept_none = from_given.0

  -- and it is the record of its tray
  pub kept_is : set_up f.N f.K f.n ≡ h
  kept_is = let e = from_given.1 in cc

  pub kept_lands : (x : ℕ) → x ≤ min h.n1 h.k → Lands h.sign h.offset x
  kept_lands =
      subst (λ (s : Hypergeometric). (x : ℕ) → x ≤ min s.n1 s.k → Lands s.sign s.offset x) kept_is
      (set_up_lands f.N f.K f.n kept_none)

-- equal readings, equal answers: so `set_up`'s contract leaves one
pub one_set_up : (a b : SetUp) → set_up_paper a ≡ set_up_paper b → a ≡ b
one_set_up (Ok h) (Ok g) e = cc
one_set_up (Ok h) (Err y) e = refused_not_drawn (number_of y) h 0 (sym e)
one_set_up (Err x) (Ok g) e = refused_not_drawn (number_of x) g 0 e
one_set_up (Err x) (Err y) e = ap Err (one_refusal x y (cc))
