-- RULES, 'Refusals': the order for a draw, 1, then the parameters' refusals, then those of a tape that is too short. Assumes nothing.
use Rattle.std.specs.Prelude.{ℕ, Bool, false, List, [], ◌∷◌, ◌++◌, ◌≡◌, eqb}
use Rattle.words.specs.Words.{too_long}
use Rattle.words.specs.Outcome.{Outcome, drawn, refused}
use Rattle.words.specs.Refusals.{Condition, ◌on◌, given}
use Rattle.words.specs.Paper.{Answer, paper}

-- the refusals by which a reading may run out of words, in their order: Exhausted
abbrev pub shorts : List ℕ
shorts = 10 ∷ []

-- whether reading called for a word past the end, in a state whose refusal is n
abbrev pub ends_by : {A : Type 0} → ℕ → Outcome A → Bool
ends_by n (drawn a u) = false
ends_by n (refused m) = eqb m n

-- that the reading o ended by n, for each n of a list
unfoldable pub endings : {A : Type 0} → List ℕ → Outcome A → List Condition
endings [] o = []
endings (n ∷ ns) o = n on ends_by n o ∷ endings ns o

-- what a draw is made of: its parameters' refusals in their order, and what its rule comes to over the words
pub record Drawing (A : Type 0) : Type 0 where
  pub refusals : List Condition
  pub reads : List ℕ → Outcome A

-- its conditions over the words ws
abbrev pub conditions : {A : Type 0} → Drawing A → List ℕ → List Condition
conditions d ws = 1 on too_long ws ∷ d.refusals ++ endings shorts (d.reads ws)

-- its outcome
unfoldable pub draw : {A : Type 0} → Drawing A → List ℕ → Outcome A
draw d ws = given (conditions d ws) (d.reads ws)

-- The contract of every draw: over the words ws the answer a is, in the rules' terms, the drawing's outcome.
abbrev pub DrawAllows : Drawing ℕ → List ℕ → Answer → Type 0
DrawAllows d ws a = paper a ≡ draw d ws
