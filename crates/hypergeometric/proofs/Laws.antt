-- Laws of the hypergeometric draw: what is promised of it beside the rules themselves. Assumes nothing.
use mathlib.Core.Path.{◌≡◌, refl, sym, ap, subst}
use mathlib.Core.List.{List, []}
use mathlib.Core.Logic.{◌↔◌}
use Prim.Native.Nat.{ℕ, suc, ◌≤◌, ◌<◌}
use native.Mathlib.Omega.{arith}
use lib.ListN.{length, take, get_or}
use Rattle.words.specs.Words.{most_words, fraction_of}
use Rattle.words.specs.Outcome.{drawn, refused}
use Rattle.words.specs.Refusals.{First, NoneHolds}
use Rattle.words.specs.Draw.{conditions, draw}
use Rattle.words.specs.Inner.{is_on}
use Rattle.words.proofs.Reading.{reading_used, reading_ends}
use Rattle.words.proofs.Keeping.{reading_keeps}
use Rattle.words.proofs.Locality.{reading_local}
use Rattle.words.proofs.Drawing.{accepted_passed, accepted_reading}
use Rattle.words.proofs.PastEnd.{closes_done, reading_can_end}
use Rattle.words.proofs.Lawful.{Lawful, lawful_exactly, lawful_local}
use Rattle.hypergeometric.specs.Reduction.{population_cap, InSupport}
use Rattle.hypergeometric.specs.SetUp.{set_up, tray_refusals}
use Rattle.hypergeometric.specs.Hypergeometric.{counted, inversion_rule, hypergeometric}
use Rattle.hypergeometric.proofs.Reducing.{carries}
use Rattle.hypergeometric.proofs.Settling.{accepted_K, accepted_n, accepted_N}
use Rattle.hypergeometric.proofs.Walks.{StepExact, step_exact, inverted≤}
use Rattle.hypergeometric.proofs.Kept.{set_up_small}

-- no step of an accepted tray's inversion casts a whole number that a float would round
pub inversion_exact : (N K n : ℕ) → NoneHolds (tray_refusals N K n) → (x : ℕ) → x < (set_up N K n).k
    → StepExact (set_up N K n).n1 (set_up N K n).n2 (set_up N K n).k x
inversion_exact N K n none x h = let s = set_up N K n in step_exact s.n1 s.n2 s.k x (set_up_small N K n none) h

-- whatever the word, an accepted tray's count lies in max(0, n+K-N) to min(n, K)
pub counted_support : (N K n : ℕ) → NoneHolds (tray_refusals N K n) → (w : ℕ) → InSupport N K n (counted (set_up N K n) w)
unfolding counted set_up
counted_support N K n none w =
    let h = set_up N K n in
    (carries N K n (accepted_K N K n none) (accepted_n N K n none)).into _ (inverted≤ h.n1 h.n2 h.k h.first (fraction_of w))

module _ (N K n : ℕ) (ws : List ℕ) (c u : ℕ) (e : draw (hypergeometric N K n) ws ≡ drawn c u) where
  -- used is 1, and the count is that of the first word
  drew : (u ≡ 1) × (c ≡ counted (set_up N K n) (get_or ws 0 0))
  unfolding hypergeometric
  drew =
      let h = set_up N K n in
      reading_keeps (inversion_rule h) ws (λ s v. v ≡ 0) (λ a v. (v ≡ 1) × (a ≡ counted h (get_or ws 0 0)))
      (λ s v l z. (ap suc z, ap (λ (i : ℕ). counted h (get_or ws i 0)) z)) refl c u
      (accepted_reading (hypergeometric N K n) ws c u e)

  pub hypergeometric_used : u ≡ 1
  hypergeometric_used = drew.0

  pub hypergeometric_count : c ≡ counted (set_up N K n) (get_or ws 0 0)
  hypergeometric_count = drew.1

  none : NoneHolds (tray_refusals N K n)
  unfolding hypergeometric
  none = accepted_passed (hypergeometric N K n) ws c u e

  -- the count lies in max(0, n+K-N) to min(n, K)
  pub hypergeometric_support : InSupport N K n c
  hypergeometric_support = subst (InSupport N K n) (sym hypergeometric_count) (counted_support N K n none (get_or ws 0 0))

  pub hypergeometric_bounds : (u ≤ most_words) × (c ≤ population_cap)
  hypergeometric_bounds =
      let s = hypergeometric_support in
      (omega (arith, hypergeometric_used), omega (arith, accepted_n N K n none, accepted_N N K n none))

-- what the layers above are owed
pub hypergeometric_lawful : (N K n : ℕ) → Lawful (hypergeometric N K n) (InSupport N K n)
unfolding hypergeometric tray_refusals is_on
hypergeometric_lawful N K n =
    let r = inversion_rule (set_up N K n) in
    record {
      ends = reading_ends r (λ s. refl);
      parameters = (refl, (refl, (refl, (refl, (refl, tt)))));
      local = reading_local r;
      within = reading_used r;
      -- one word is enough, whatever it is
      can_end = λ h. reading_can_end r (λ s. (0, ([], closes_done r s 0 [] (counted (set_up N K n) 0) refl)));
      fits = λ ws c u e. omega (arith, (hypergeometric_bounds N K n ws c u e).1);
      support = hypergeometric_support N K n;
    }

module _ (N K n : ℕ) (ws : List ℕ) where
  -- each refusal is given exactly on its condition, none earlier holding
  pub hypergeometric_exactly : (x : ℕ) → (draw (hypergeometric N K n) ws ≡ refused x) ↔ First x (conditions (hypergeometric N K n) ws)
  hypergeometric_exactly = lawful_exactly (hypergeometric N K n) _ (hypergeometric_lawful N K n) ws

  -- it looks at the words that it reports as used and at no others
  pub hypergeometric_local : (c u : ℕ) → draw (hypergeometric N K n) ws ≡ drawn c u
      → (vs : List ℕ) → length vs ≤ most_words → take u ws ≡ take u vs → draw (hypergeometric N K n) vs ≡ drawn c u
  hypergeometric_local = lawful_local (hypergeometric N K n) _ (hypergeometric_lawful N K n) ws
