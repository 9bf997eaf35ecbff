-- How a drawing rule reads words (RULES, 'Words and fractions'): from the front, in order, one at a time. Said once for all draws. Assumes nothing.
use Rattle.std.specs.Prelude.{ℕ, suc, ◌<◌, List, [], ◌∷◌, ◌++◌, ◌≡◌, length, take}
use Rattle.words.specs.Outcome.{Outcome, drawn, refused}

-- where a rule stands: it has what it draws, or it calls for one word more in the state s
pub data Step (S A : Type 0) : Type 0 where
  done : A → Step S A
  more : S → Step S A

-- where a rule begins, its step by the word that it called for, and the refusal of a state whose word lies past the end
pub record Rule (S A : Type 0) : Type 0 where
  pub start : Step S A
  pub step : S → ℕ → Step S A
  pub short : S → ℕ

-- words are read from the front until the rule is done; u words were read before
unfoldable pub read : {S A : Type 0} → Rule S A → List ℕ → Step S A → ℕ → Outcome A
read r [] (done a) u = drawn a u
read r [] (more s) u = refused (r.short s)
read r (w ∷ ws) (done a) u = drawn a u
read r (w ∷ ws) (more s) u = read r ws (r.step s w) (suc u)

-- what the rule comes to over a list of words
abbrev pub reading : {S A : Type 0} → Rule S A → List ℕ → Outcome A
reading r ws = read r ws r.start 0

-- What looks at the words that it reports as used and at no others: where it draws, any list that agrees on that many first words
-- gives the same.
unfoldable pub Local : {A : Type 0} → (List ℕ → Outcome A) → Type 0
Local {A} F = (ws vs : List ℕ) (a : A) (u : ℕ) → F ws ≡ drawn a u → take u ws ≡ take u vs → F vs ≡ drawn a u

-- It calls for a word past the end of ws: over every longer list, where it draws it uses more words than ws has.
abbrev pub CallsPast : {A : Type 0} → (List ℕ → Outcome A) → List ℕ → Type 0
CallsPast {A} F ws = (v : ℕ) (vs : List ℕ) (a : A) (u : ℕ) → F (ws ++ v ∷ vs) ≡ drawn a u → length ws < u

-- there is a longer list over which it draws
abbrev pub CanEnd : {A : Type 0} → (List ℕ → Outcome A) → List ℕ → Type 0
CanEnd {A} F ws = (v : ℕ) × ((vs : List ℕ) × ((a : A) × ((u : ℕ) × (F (ws ++ v ∷ vs) ≡ drawn a u))))
