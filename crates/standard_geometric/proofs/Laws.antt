-- Laws of the standard geometric draw: what is promised of it beside the rule itself. Assumes nothing.
use mathlib.Core.Path.{◌≡◌, refl, ap, ◌∙◌}
use mathlib.Core.Bool.{true, false}
use mathlib.Core.List.{List, []}
use mathlib.Core.Logic.{◌↔◌}
use Prim.Native.Nat.{ℕ, suc, ◌+◌, ◌*◌, ◌-◌, ◌≤◌, ◌<◌}
use native.Mathlib.Numerals.{add-one}
use native.Mathlib.Omega.{arith}
use borrow.Author.Count.{below_none, below_more}
use borrow.Author.Tests.{eqb-true, eqb-false}
use lib.Dec.{eqb}
use lib.ListN.{length, take, get_or}
use lib.Count.{count_leading_zeros, leading_of_zero}
use Rattle.words.specs.Words.{most_words}
use Rattle.words.specs.Outcome.{drawn, refused}
use Rattle.words.specs.Rule.{done, more}
use Rattle.words.specs.Refusals.{First}
use Rattle.words.specs.Draw.{conditions, draw}
use Rattle.words.specs.Inner.{is_on}
use Rattle.words.proofs.Reading.{reading_used, reading_ends}
use Rattle.words.proofs.Keeping.{After, after_cond, reading_keeps}
use Rattle.words.proofs.Locality.{reading_local}
use Rattle.words.proofs.Drawing.{accepted_within, accepted_reading}
use Rattle.words.proofs.PastEnd.{closes_done, reading_can_end}
use Rattle.words.proofs.Lawful.{Lawful, lawful_exactly, lawful_local}
use Rattle.standard_geometric.proofs.Zeros.{zeros_fewer}
use Rattle.standard_geometric.specs.Standard.{standard_rule, standard_geometric}

module _ (ws : List ℕ) where
  -- the rules' words: every word before the last is 0, the last is not, and the count is 64 × (used - 1) plus the last word's leading zeros
  pub record Zeros (c u : ℕ) : Type 0 where
    pub some : 1 ≤ u
    pub before : (i : ℕ) → i < u - 1 → get_or ws i 0 ≡ 0
    pub last : get_or ws (u - 1) 0 ≡ 0 → ⊥
    pub count : c ≡ 64 * (u - 1) + count_leading_zeros 64 (get_or ws (u - 1) 0)

  -- what each word keeps
  AllZero : ℕ → ℕ → Type 0
  AllZero n u = (n ≡ 64 * u) × ((i : ℕ) → i < u → get_or ws i 0 ≡ 0)

  module _ (n u : ℕ) (z : AllZero n u) where
    w : ℕ
    w = get_or ws u 0

    on_zero : eqb w 0 ≡ true → AllZero (n + count_leading_zeros 64 w) (suc u)
    unfolding AllZero w
    on_zero t =
        let e : w ≡ 0 = eqb-true w 0 t in
        let a : count_leading_zeros 64 w ≡ 64 = ap (count_leading_zeros 64) e ∙ leading_of_zero 64 in
        (omega arith, rw (← add-one u) (below_more (λ (i : ℕ). get_or ws i 0 ≡ 0) u z.1 e))

    on_other : eqb w 0 ≡ false → Zeros (n + count_leading_zeros 64 w) (suc u)
    unfolding AllZero w
    on_other t =
        let e : suc u - 1 ≡ u = omega arith in
        record {
          some = omega arith;
          before = rw e z.1;
          last = rw e (eqb-false w 0 t);
          count = rw e (ap (λ (x : ℕ). x + count_leading_zeros 64 w) z.0);
        }

  keeps : (n u : ℕ) → u < length ws → AllZero n u → After AllZero Zeros (standard_rule.step n (get_or ws u 0)) (suc u)
  unfolding w
  keeps n u h z =
      let m = n + count_leading_zeros 64 (get_or ws u 0) in
      after_cond AllZero Zeros (eqb (get_or ws u 0) 0) (more m) (done m) (suc u) (on_zero n u z) (on_other n u z)

  module _ (c u : ℕ) (e : draw standard_geometric ws ≡ drawn c u) where
    pub standard_zeros : Zeros c u
    unfolding standard_geometric AllZero
    standard_zeros =
        reading_keeps standard_rule ws AllZero Zeros keeps (refl, below_none (λ (i : ℕ). get_or ws i 0 ≡ 0)) c u
        (accepted_reading standard_geometric ws c u e)

    pub standard_bounds : (u ≤ most_words) × (c < 64 * most_words)
    unfolding standard_geometric
    standard_bounds =
        let k = accepted_within standard_geometric ws c u e in
        let r = reading_used standard_rule ws c u (accepted_reading standard_geometric ws c u e) in
        let z = standard_zeros in
        let l = zeros_fewer (get_or ws (u - 1) 0) z.last in
        (omega arith, omega arith)

-- what the layers above are owed; a count has no support
pub standard_lawful : Lawful standard_geometric (λ c. Unit)
unfolding standard_geometric is_on
standard_lawful =
    record {
      ends = reading_ends standard_rule (λ s. refl);
      parameters = tt;
      local = reading_local standard_rule;
      within = reading_used standard_rule;
      -- a word that isn't 0 is the last
      can_end = λ h. reading_can_end standard_rule (λ n. (1, ([], closes_done standard_rule n 1 [] (n + count_leading_zeros 64 1) refl)));
      fits = λ ws c u e. omega (arith, (standard_bounds ws c u e).1);
      support = λ ws c u e. tt;
    }

module _ (ws : List ℕ) where
  -- each refusal is given exactly on its condition, none earlier holding
  pub standard_exactly : (n : ℕ) → (draw standard_geometric ws ≡ refused n) ↔ First n (conditions standard_geometric ws)
  standard_exactly = lawful_exactly standard_geometric _ standard_lawful ws

  -- it looks at the words that it reports as used and at no others
  pub standard_local : (c u : ℕ) → draw standard_geometric ws ≡ drawn c u
      → (vs : List ℕ) → length vs ≤ most_words → take u ws ≡ take u vs → draw standard_geometric vs ≡ drawn c u
  standard_local = lawful_local standard_geometric _ standard_lawful ws
