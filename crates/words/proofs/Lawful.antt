-- What every kind of draw owes the layers above, as one record, and the laws over any drawing that follow from it. Assumes nothing.
use mathlib.Core.Path.{◌≡◌, sym, ap, ◌∙◌}
use mathlib.Core.Bool.{true, false, true≢false}
use mathlib.Core.List.{List, [], ◌∷◌}
use mathlib.Core.Logic.{◌⊎◌, inl, inr, ◌↔◌}
use Prim.Native.Nat.{ℕ, ◌^◌, ◌≤◌, ◌<◌}
use native.Mathlib.Nat.{le_trans}
use lib.ListN.{length, take}
use Rattle.words.specs.Words.{most_words, too_long}
use Rattle.words.specs.Outcome.{drawn, refused}
use Rattle.words.specs.Rule.{Local, CallsPast, CanEnd}
use Rattle.words.specs.Refusals.{Condition, First, NoneHolds}
use Rattle.words.specs.Draw.{shorts, endings, Drawing, conditions, draw}
use Rattle.words.specs.Inner.{is_on, is_short}
use Rattle.words.proofs.Exactly.{first_split}
use Rattle.words.proofs.Short.{first_ended}
use Rattle.words.proofs.PastEnd.{short_exactly}
use Rattle.words.proofs.Drawing.{draw_reads, accepted_within, accepted_reading, draw_exactly, draw_local}

-- no refusal of the list is short
abbrev pub NoneShort : List Condition → Type 0
NoneShort [] = Unit
NoneShort (c ∷ cs) = (is_short c.number ≡ false) × NoneShort cs

-- of a drawing whose counts keep to S
pub record Lawful (d : Drawing ℕ) (S : ℕ → Type 0) : Type 0 where
  -- a reading runs out by a short refusal alone, and no parameter is refused by one
  pub ends : (ws : List ℕ) (n : ℕ) → d.reads ws ≡ refused n → is_short n ≡ true
  pub parameters : NoneShort d.refusals
  -- it looks at the words that it uses and at no others, and uses at most those that there are
  pub local : Local d.reads
  pub within : (ws : List ℕ) (c u : ℕ) → d.reads ws ≡ drawn c u → u ≤ length ws
  -- where its parameters pass, any tape has a longer one over which it draws
  pub can_end : NoneHolds d.refusals → (ws : List ℕ) → CanEnd d.reads ws
  -- a count fits 64 bits, and keeps to S
  pub fits : (ws : List ℕ) (c u : ℕ) → draw d ws ≡ drawn c u → c < 2 ^ 64
  pub support : (ws : List ℕ) (c u : ℕ) → draw d ws ≡ drawn c u → S c

-- a parameter's refusal is one that is not short
first_long : (cs : List Condition) (n : ℕ) → NoneShort cs → First n cs → is_short n ≡ false
first_long [] n s f = absurd f
first_long (c ∷ cs) n s (inl h) = rw h.1 at s.0
first_long (c ∷ cs) n s (inr h) = first_long cs n s.1 h.1

pub lawful_parameter : (d : Drawing ℕ) (S : ℕ → Type 0) → Lawful d S → (n : ℕ) → First n d.refusals → is_short n ≡ false
lawful_parameter d S l n f = first_long d.refusals n l.parameters f

-- the draw is refused by one of the numbers for a tape that is too short
abbrev pub RefusedShort : Drawing ℕ → List ℕ → Type 0
RefusedShort d ws = (n : ℕ) × ((is_short n ≡ true) × (draw d ws ≡ refused n))

-- nothing is refused before a word is read, and a word past the end is called for
pub record WantsMore (d : Drawing ℕ) (ws : List ℕ) : Type 0 where
  pub within_limit : too_long ws ≡ false
  pub passed : NoneHolds d.refusals
  pub calls : CallsPast d.reads ws

module _ (d : Drawing ℕ) (S : ℕ → Type 0) (l : Lawful d S) (ws : List ℕ) where
  -- each refusal is given exactly on its condition, none earlier holding
  pub lawful_exactly : (n : ℕ) → (draw d ws ≡ refused n) ↔ First n (conditions d ws)
  lawful_exactly = draw_exactly d ws (l.ends ws)

  wants : (n : ℕ) → is_short n ≡ true → First n (conditions d ws) → WantsMore d ws
  unfolding is_on
  wants n s (inl h) = absurd (true≢false (sym s ∙ ap is_short (sym h.1)))
  wants n s (inr h) = go (first_split d.refusals (endings shorts (d.reads ws)) n h.1)
    where
      go : First n d.refusals ⊎ (NoneHolds d.refusals × First n (endings shorts (d.reads ws))) → WantsMore d ws
      go (inl f) = absurd (true≢false (sym s ∙ lawful_parameter d S l n f))
      go (inr x) =
          record {
            within_limit = h.0;
            passed = x.0;
            calls = (short_exactly d.reads l.local l.within ws).0 (n, (first_ended shorts (d.reads ws) n x.1).1);
          }

  -- Exhausted in the rules' words: exactly when the rules call for a word past the end.
  pub lawful_short : RefusedShort d ws ↔ WantsMore d ws
  lawful_short = (
    λ x. wants x.0 x.1.0 ((lawful_exactly x.0).0 x.1.1),
    λ w.
        let r = (short_exactly d.reads l.local l.within ws).1 w.calls in
        (r.0, (l.ends ws r.0 r.1, draw_reads d ws w.within_limit w.passed ∙ r.1)),
  )

  module _ (c u : ℕ) (e : draw d ws ≡ drawn c u) where
    -- an accepted draw looks at the words that it reports as used and at no others, over tapes within the limit
    pub lawful_local : (vs : List ℕ) → length vs ≤ most_words → take u ws ≡ take u vs → draw d vs ≡ drawn c u
    lawful_local vs = draw_local d l.local ws vs c u e

    -- and uses no more than a tape may have
    pub lawful_used : u ≤ most_words
    lawful_used = le_trans (l.within ws c u (accepted_reading d ws c u e)) (accepted_within d ws c u e)
