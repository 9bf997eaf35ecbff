-- Laws of a draw's outcome, once for every drawing. Assumes nothing.
use mathlib.Core.Path.{◌≡◌, ap, ◌∙◌}
use mathlib.Core.Bool.{true, false, cond}
use mathlib.Core.List.{List, [], ◌∷◌}
use mathlib.Core.Logic.{inr, ◌↔◌}
use Prim.Native.Nat.{ℕ, ◌≤◌}
use lib.ListN.{length, take}
use Rattle.words.specs.Words.{most_words, too_long}
use Rattle.words.specs.Outcome.{Outcome, drawn, refused}
use Rattle.words.specs.Rule.{Local}
use Rattle.words.specs.Refusals.{◌on◌, given, First, NoneHolds}
use Rattle.words.specs.Draw.{shorts, endings, Drawing, conditions, draw}
use Rattle.words.specs.Inner.{is_short}
use Rattle.words.proofs.Tape.{within_limit, limit_within}
use Rattle.words.proofs.Exactly.{first_given, first_before, exactly, some_after, given_append, none_given, none_before, drawn_exactly}
use Rattle.words.proofs.Short.{ends_same, ended_first}

module _ {A : Type 0} (d : Drawing A) (ws : List ℕ) where
  abbrev o : Outcome A
  o = d.reads ws

  -- The order for a draw (RULES, 'Refusals'): 1 is given before any parameter is looked at, and a parameter's refusal before any word
  -- is read.
  pub limit_first : too_long ws ≡ true → draw d ws ≡ refused 1
  unfolding draw
  limit_first e = simp e

  pub parameters_next : too_long ws ≡ false → (n : ℕ) → First n d.refusals → draw d ws ≡ refused n
  unfolding draw
  parameters_next e n f = first_given (conditions d ws) o n (inr (e, first_before d.refusals (endings shorts o) n f))

  -- where nothing stands before it, the reading decides
  pub draw_reads : too_long ws ≡ false → NoneHolds d.refusals → draw d ws ≡ d.reads ws
  unfolding draw
  draw_reads e h = simp e (given_append d.refusals (endings shorts o) o ∙ none_given d.refusals (given (endings shorts o) o) h ∙ ends_same shorts o)

  -- A draw is accepted exactly where none of its conditions holds, and it is its reading.
  pub accepted_exactly : (a : A) (u : ℕ) → (draw d ws ≡ drawn a u) ↔ (NoneHolds (conditions d ws) × (d.reads ws ≡ drawn a u))
  unfolding draw
  accepted_exactly a u = drawn_exactly (conditions d ws) o a u

  module _ (a : A) (u : ℕ) (e : draw d ws ≡ drawn a u) where
    pub accepted_within : length ws ≤ most_words
    accepted_within = within_limit ws ((accepted_exactly a u).0 e).0.0

    -- it passed its parameters' conditions
    pub accepted_passed : NoneHolds d.refusals
    accepted_passed = none_before d.refusals (endings shorts o) ((accepted_exactly a u).0 e).0.1

    pub accepted_reading : d.reads ws ≡ drawn a u
    accepted_reading = ((accepted_exactly a u).0 e).1

  -- Each refusal exactly on its condition, none earlier holding: of a reading that runs out by the list's numbers alone.
  pub draw_exactly : ((n : ℕ) → d.reads ws ≡ refused n → is_short n ≡ true) → (n : ℕ) → (draw d ws ≡ refused n) ↔ First n (conditions d ws)
  unfolding draw
  draw_exactly only =
      exactly (conditions d ws) o (λ n e. some_after (1 on too_long ws ∷ d.refusals) (endings shorts o) (n, ended_first shorts o n e (only n e)))

-- a draw whose parameters pass is that of its reading alone
pub draw_passed : {A : Type 0} (d : Drawing A) (ws : List ℕ) → NoneHolds d.refusals → draw d ws ≡ draw (record { refusals = []; reads = d.reads }) ws
unfolding draw
draw_passed d ws h =
    let o = d.reads ws in
    ap (cond (too_long ws) (refused 1)) (given_append d.refusals (endings shorts o) o ∙ none_given d.refusals (given (endings shorts o) o) h)

-- locality of the whole draw, where both tapes keep to the limit
pub draw_local : {A : Type 0} (d : Drawing A) → Local d.reads → (ws vs : List ℕ) (a : A) (u : ℕ) → draw d ws ≡ drawn a u
    → length vs ≤ most_words → take u ws ≡ take u vs → draw d vs ≡ drawn a u
unfolding Local
draw_local d f ws vs a u e h same =
    draw_reads d vs (limit_within vs h) (accepted_passed d ws a u e) ∙ f ws vs a u (accepted_reading d ws a u e) same
