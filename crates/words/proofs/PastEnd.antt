-- Exhausted in the words of RULES, 'Words and fractions': a reading is refused exactly when it calls for a word past the end; and where
-- every state can end, there is a longer tape over which it draws. Once, for every reading. Assumes nothing.
use mathlib.Core.Path.{◌≡◌, refl, sym, ap, ◌∙◌}
use mathlib.Core.Bool.{Bool, true, false, cond}
use mathlib.Core.List.{List, [], ◌∷◌, ◌++◌, append-nil}
use mathlib.Core.Logic.{◌↔◌}
use Prim.Native.Nat.{ℕ, suc, ◌≤◌}
use native.Mathlib.Decide.{dec_lt}
use native.Mathlib.Omega.{arith}
use lib.ListN.{length}
use lib.Seq.{take-append-le}
use Rattle.words.specs.Outcome.{Outcome, drawn, refused}
use Rattle.words.specs.Rule.{Step, done, more, Rule, read, reading, Local, CallsPast, CanEnd}
use Rattle.words.proofs.Reading.{refused_not_drawn, read_done, reading_used}
use Rattle.words.proofs.Locality.{reading_local}

-- what is refused, by whatever number
abbrev pub IsRefused : {A : Type 0} → Outcome A → Type 0
IsRefused o = (n : ℕ) × (o ≡ refused n)

-- ---- refused exactly where a word past the end is called for

module _ {A : Type 0} (F : List ℕ → Outcome A) (local : Local F)
    (within : (ws : List ℕ) (a : A) (u : ℕ) → F ws ≡ drawn a u → u ≤ length ws) (ws : List ℕ) where
  -- what is drawn over one of two lists that begin with ws, by no more words than ws has, is drawn over the other
  drawn_too : (xs ys : List ℕ) (a : A) (u : ℕ) → F (ws ++ xs) ≡ drawn a u → u ≤ length ws → F (ws ++ ys) ≡ drawn a u
  unfolding Local
  drawn_too xs ys a u e h = local (ws ++ xs) (ws ++ ys) a u e (take-append-le u ws xs h ∙ sym (take-append-le u ws ys h))

  -- ws is such a list too
  alone : F (ws ++ []) ≡ F ws
  alone = ap F (append-nil ws)

  refused_calls : IsRefused (F ws) → CallsPast F ws
  refused_calls r v vs a u e =
      elim (dec_lt (length ws) u) [
        | yes h ↦ h
        | no h ↦ refused_not_drawn r.0 a u (sym r.1 ∙ sym alone ∙ drawn_too (v ∷ vs) [] a u e (omega arith))
      ]

  calls_refused : CallsPast F ws → IsRefused (F ws)
  calls_refused h = go (F ws) refl
    where
      go : (o : Outcome A) → F ws ≡ o → IsRefused (F ws)
      go (refused n) e = (n, e)
      go (drawn a u) e =
          let k : u ≤ length ws = within ws a u e in
          absurd (omega (arith, h 0 [] a u (drawn_too [] (0 ∷ []) a u (alone ∙ e) k)))

  pub short_exactly : IsRefused (F ws) ↔ CallsPast F ws
  short_exactly = (refused_calls, calls_refused)

-- so of every rule: a reading is refused exactly when it calls for a word past the end
pub reading_short : {S A : Type 0} (r : Rule S A) (ws : List ℕ) → IsRefused (reading r ws) ↔ CallsPast (reading r) ws
reading_short r ws = short_exactly (reading r) (reading_local r) (reading_used r) ws

-- ---- words with which it draws

module _ {S A : Type 0} (r : Rule S A) where
  -- the words vs end a reading that stands in the state s
  abbrev pub Closes : S → List ℕ → Type 0
  Closes s vs = (u : ℕ) → (a : A) × ((v : ℕ) × (read r vs (more s) u ≡ drawn a v))

  -- a step that is done has ended
  pub closes_done : (s : S) (w : ℕ) (vs : List ℕ) (a : A) → r.step s w ≡ done a → Closes s (w ∷ vs)
  unfolding read
  closes_done s w vs a e u = (a, (suc u, ap (λ (st : Step S A). read r vs st (suc u)) e ∙ read_done r vs a (suc u)))

  -- one that goes on ends by what ends the next state
  pub closes_more : (s t : S) (w : ℕ) (vs : List ℕ) → r.step s w ≡ more t → Closes t vs → Closes s (w ∷ vs)
  unfolding read
  closes_more s t w vs e h u =
      let x = h (suc u) in
      (x.0, (x.1.0, ap (λ (st : Step S A). read r vs st (suc u)) e ∙ x.1.1))

  module _ (each : (s : S) → (v : ℕ) × ((vs : List ℕ) × Closes s (v ∷ vs))) where
    from : (ws : List ℕ) (st : Step S A) (u : ℕ) → (v : ℕ) × ((vs : List ℕ) × ((a : A) × ((k : ℕ) × (read r (ws ++ v ∷ vs) st u ≡ drawn a k))))
    unfolding read
    from [] (done a) u = (0, ([], (a, (u, refl))))
    from [] (more s) u = ((each s).0, ((each s).1.0, (each s).1.1 u))
    from (w ∷ ws) (done a) u = (0, ([], (a, (u, refl))))
    from (w ∷ ws) (more s) u = from ws (r.step s w) (suc u)

    -- where every state can end, so can a reading over any words
    pub reading_can_end : (ws : List ℕ) → CanEnd (reading r) ws
    reading_can_end ws = from ws r.start 0

-- a test that looks at no word chooses between two readings
pub cond_can_end : {A : Type 0} (b : Bool) (F G : List ℕ → Outcome A) (ws : List ℕ) → (b ≡ true → CanEnd F ws) → (b ≡ false → CanEnd G ws)
    → CanEnd (λ vs. cond b (F vs) (G vs)) ws
cond_can_end true F G ws f g = f refl
cond_can_end false F G ws f g = g refl
