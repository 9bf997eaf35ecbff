-- There is no other difference of a tray's draws than entry one's. Assumes nothing.
use mathlib.Core.Path.{◌≡◌, refl, sym, subst}
use mathlib.Core.Bool.{Bool, true, false, cond}
use Prim.Native.Nat.{ℕ, min}
use lib.Dec.{leb}
use borrow.Author.Tests.{leb-true, leb-false, eq-eqb, ne_eqb}
use Rattle.words.specs.Refusals.{NoneHolds}
use Rattle.hypergeometric.specs.Reduction.{InSupport}
use Rattle.hypergeometric.specs.SetUp.{set_up, tray_refusals}
use Rattle.hypergeometric.specs.Hypergeometric.{counted}
use Rattle.hypergeometric.specs.RustWalk.{rust_x, rust_counted}
use Rattle.hypergeometric.proofs.Laws.{counted_support}
use Rattle.hypergeometric.proofs.RustWalking.{entry_one}
use Rattle.judge.specs.declared.Verdict.TheVariants.{Agrees, Listed}
use Rattle.judge.specs.Judging.{judged}
use Rattle.judge.specs.Trays.{verdict, OnlyEntryOne}
use Rattle.judge.proofs.Support.{outside}

module _ (N K n : ℕ) (none : NoneHolds (tray_refusals N K n)) (w : ℕ) where
  -- where the Rust's x ends, and the bound
  abbrev x : ℕ
  x = rust_x (set_up N K n) w

  abbrev bound : ℕ
  bound = min (set_up N K n).n1 (set_up N K n).k

  by_bound : (b : Bool) → leb x bound ≡ b → verdict N K n w ≡ cond b Agrees (Listed 1)
  unfolding judged
  by_bound true e =
      let c = counted (set_up N K n) w in
      rw ((entry_one N K n none w).same (leb-true x bound e), eq-eqb c c refl)
  by_bound false e =
      let c = counted (set_up N K n) w in
      let rust = rust_counted (set_up N K n) w in
      let far = (entry_one N K n none w).past (leb-false x bound e) in
      let apart = ne_eqb c rust (λ s. far (subst (InSupport N K n) s (counted_support N K n none w))) in
      rw (apart, sym (outside N K n rust far))

pub only_entry_one : OnlyEntryOne
only_entry_one N K n none w = by_bound N K n none w (leb (x N K n none w) (bound N K n none w)) refl
