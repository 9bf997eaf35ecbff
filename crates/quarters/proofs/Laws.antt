-- Laws of the draw by a mean in quarters: its threshold is a float exactly and in the range of thresholds, so it is the Poisson draw with it.
-- Assumes nothing.
use mathlib.Core.Path.{◌≡◌, refl, sym, ◌∙◌}
use mathlib.Core.Bool.{true, false, and-eq-true_iff}
use mathlib.Core.List.{List}
use mathlib.Core.Logic.{◌↔◌}
use Prim.Native.Nat.{ℕ, ◌^◌, ◌≤◌}
use native.Mathlib.Omega.{arith}
use borrow.Author.Tests.{not-false, leb-true}
use lib.Dec.{leb}
use lib.Pow.{pow_pos}
use lib.ListN.{length, take}
use lib.Ieee.Exact.{HasValue}
use Rattle.words.specs.Words.{most_words}
use Rattle.words.specs.Outcome.{drawn, refused}
use Rattle.words.specs.Refusals.{First, NoneHolds}
use Rattle.words.specs.Draw.{conditions, draw}
use Rattle.words.specs.Inner.{is_on}
use Rattle.words.proofs.Fractions.{over_exact}
use Rattle.words.proofs.Drawing.{accepted_passed, draw_passed}
use Rattle.words.proofs.Lawful.{Lawful, lawful_exactly, lawful_local}
use Rattle.poisson.specs.Poisson.{in_range, poisson}
use Rattle.poisson.proofs.Range.{ratio_inside}
use Rattle.poisson.proofs.Laws.{poisson_lawful}
use Rattle.quarters.specs.Quarters.{E, most_quarters, is_mean, threshold_of, mean_refusals, quarters}
use Rattle.quarters.proofs.Thresholds.{least, most}

module _ (j : ℕ) (l : 1 ≤ j) (h : j ≤ most_quarters) where
  -- nothing is rounded away
  pub threshold_exact : HasValue (threshold_of j) false (E j) (2 ^ 52)
  unfolding threshold_of
  threshold_exact = over_exact 52 1022 (E j) (omega arith) (omega (arith, most j l h))

  -- it is in the range of thresholds, so that 7 never comes
  pub threshold_inside : in_range (threshold_of j) ≡ true
  unfolding threshold_of
  threshold_inside = ratio_inside (E j) (2 ^ 52) (pow_pos 52) (omega (arith, least j l h)) (most j l h)

-- of a mean that is accepted
module _ (j : ℕ) (ok : NoneHolds (mean_refusals j)) where
  ends_of : (leb 1 j ≡ true) × (leb j most_quarters ≡ true)
  unfolding is_mean
  ends_of = (and-eq-true_iff (leb 1 j) (leb j most_quarters)).0 (not-false (is_mean j) ok.0)

  passed : NoneHolds (poisson (threshold_of j)).refusals
  unfolding poisson
  passed = (rw (threshold_inside j (leb-true 1 j ends_of.0) (leb-true j most_quarters ends_of.1)), tt)

  -- its draw is the Poisson draw with its threshold
  pub quarters_poisson : (ws : List ℕ) → draw (quarters j) ws ≡ draw (poisson (threshold_of j)) ws
  unfolding quarters poisson
  quarters_poisson ws = draw_passed (quarters j) ws ok ∙ sym (draw_passed (poisson (threshold_of j)) ws passed)

-- what the layers above are owed; a count has no support
pub quarters_lawful : (j : ℕ) → Lawful (quarters j) (λ c. Unit)
unfolding quarters poisson is_on
quarters_lawful j =
    let l = poisson_lawful (threshold_of j) in
    record {
      ends = l.ends;
      parameters = (refl, tt);
      local = l.local;
      within = l.within;
      can_end = λ ok. l.can_end (passed j ok);
      fits = λ ws c u e. l.fits ws c u (sym (quarters_poisson j (accepted_passed (quarters j) ws c u e) ws) ∙ e);
      support = λ ws c u e. tt;
    }

module _ (j : ℕ) (ws : List ℕ) where
  -- each refusal is given exactly on its condition, none earlier holding
  pub quarters_exactly : (n : ℕ) → (draw (quarters j) ws ≡ refused n) ↔ First n (conditions (quarters j) ws)
  quarters_exactly = lawful_exactly (quarters j) _ (quarters_lawful j) ws

  -- it looks at the words that it reports as used and at no others
  pub quarters_local : (c u : ℕ) → draw (quarters j) ws ≡ drawn c u
      → (vs : List ℕ) → length vs ≤ most_words → take u ws ≡ take u vs → draw (quarters j) vs ≡ drawn c u
  quarters_local = lawful_local (quarters j) _ (quarters_lawful j) ws
