-- Laws of the draw from what the set-up gives: an accepted tray's numbers are small, a refusal is the draw's, and a kept record's draw is its
-- tray's. Assumes nothing.
use mathlib.Core.Path.{◌≡◌, sym, ap, ◌∙◌, subst}
use mathlib.Core.Bool.{false}
use mathlib.Core.List.{List}
use Prim.Native.Nat.{ℕ, ◌≤◌, min}
use native.Mathlib.Omega.{arith}
use lib.Ieee.{Float}
use Rattle.words.specs.Words.{too_long}
use Rattle.words.specs.Outcome.{drawn, refused}
use Rattle.words.specs.Draw.{draw}
use Rattle.words.specs.Refusals.{NoneHolds}
use Rattle.words.proofs.Reading.{refused_not_drawn}
use Rattle.words.proofs.Exactly.{exactly}
use Rattle.words.proofs.Drawing.{parameters_next, draw_passed}
use Rattle.hypergeometric.specs.declared.Hypergeometric.{Hypergeometric}
use Rattle.hypergeometric.specs.SetUp.{set_up, tray_refusals, settled, FromSetUp}
use Rattle.hypergeometric.specs.Inner.{Lands, Small}
use Rattle.hypergeometric.proofs.Reducing.{k≤n2}
use Rattle.hypergeometric.proofs.Settling.{sizes, accepted_K, accepted_n, accepted_N, kept_none, kept_is, kept_lands}
use Rattle.hypergeometric.specs.Inversion.{inverted}
use Rattle.hypergeometric.specs.Hypergeometric.{hypergeometric, from_kept}
use Rattle.hypergeometric.proofs.Walks.{inverted≤}

-- an accepted tray's numbers are ones that the reduction can leave
pub set_up_small : (N K n : ℕ) → NoneHolds (tray_refusals N K n) → Small (set_up N K n).n1 (set_up N K n).n2 (set_up N K n).k
unfolding set_up
set_up_small N K n none =
    let s = sizes N K n (accepted_K N K n none) (accepted_n N K n none) (accepted_N N K n none) in
    let h = accepted_N N K n none in
    record { n1≤ = omega (arith, s.n1≤); n2≤ = omega (arith, s.n2≤); k≤ = k≤n2 N K n (accepted_K N K n none) (accepted_n N K n none) }

-- a refusal of the set-up is the draw's
pub refused_draw : (N K n x : ℕ) (ws : List ℕ) → too_long ws ≡ false → settled N K n ≡ refused x → draw (hypergeometric N K n) ws ≡ refused x
unfolding settled hypergeometric
refused_draw N K n x ws within e =
    let first = (exactly (tray_refusals N K n) (drawn (set_up N K n) 0) (λ m d. refused_not_drawn m (set_up N K n) 0 (sym d)) x).0 e in
    parameters_next (hypergeometric N K n) ws within x first

-- a record that the set-up gave
module _ (h : Hypergeometric) (f : FromSetUp h) where
  pub kept_small : Small h.n1 h.n2 h.k
  kept_small = subst (λ (s : Hypergeometric). Small s.n1 s.n2 s.k) (kept_is h f) (set_up_small f.N f.K f.n (kept_none h f))

  -- where the inversion ends, the landing is a count
  pub inverted_lands : (u : Float) (x : ℕ) → x ≡ inverted h.n1 h.n2 h.k h.first u → Lands h.sign h.offset x
  inverted_lands u x e = kept_lands h f x (subst (λ (y : ℕ). y ≤ min h.n1 h.k) (sym e) (inverted≤ h.n1 h.n2 h.k h.first u))

  -- a draw from it is the draw of its tray
  pub kept_draw : (ws : List ℕ) → draw (from_kept h) ws ≡ draw (hypergeometric f.N f.K f.n) ws
  unfolding hypergeometric
  kept_draw ws =
      ap (λ (g : Hypergeometric). draw (from_kept g) ws) (sym (kept_is h f)) ∙ sym (draw_passed (hypergeometric f.N f.K f.n) ws (kept_none h f))
