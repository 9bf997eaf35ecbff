-- RULES, 'Demands', 2, for draws: every draw equals the rules in count, words used and each refusal; counts keep to their support; one
-- answer is possible. Assumes nothing.
use Rattle.std.specs.Prelude.{ℕ, List, ◌↔◌, ◌≡◌, Float}
use Rattle.words.specs.Outcome.{drawn, refused}
use Rattle.words.specs.Refusals.{First, NoneHolds}
use Rattle.words.specs.Draw.{Drawing, conditions, DrawAllows}
use Rattle.words.specs.Paper.{Answer, paper}
use Rattle.poisson.specs.Poisson.{poisson}
use Rattle.geometric.specs.Geometric.{geometric}
use Rattle.kinds.specs.declared.Request.{Request}
use Rattle.draws.specs.Request.{drawing, Supported, Answers}

-- of the answer a to a drawing over the words ws, whose counts keep to S; the conditions are 1, the parameters', those of a tape that is
-- too short
pub record Demanded (d : Drawing ℕ) (S : ℕ → Type 0) (ws : List ℕ) (a : Answer) : Type 0 where
  -- a count and words used are given exactly where no condition holds, and they are the rule's
  pub draws : (c u : ℕ) → (paper a ≡ drawn c u) ↔ (NoneHolds (conditions d ws) × (d.reads ws ≡ drawn c u))
  -- a refusal is given exactly when its condition holds and none earlier does
  pub refuses : (n : ℕ) → (paper a ≡ refused n) ↔ First n (conditions d ws)
  -- counts keep to their kind's support
  pub support : (c u : ℕ) → paper a ≡ drawn c u → S c
  -- no other answer is possible
  pub one : (b : Answer) → DrawAllows d ws b → b ≡ a

-- of every entry point's draw: a request of any kind, its parameters by their bits; a threshold and a probability by any float
pub record Demand2 : Type 0 where
  pub requests : (r : Request) (ws : List ℕ) (a : Answer) → Answers r ws a → Demanded (drawing r) (Supported r) ws a
  pub thresholds : (T : Float) (ws : List ℕ) (a : Answer) → DrawAllows (poisson T) ws a → Demanded (poisson T) (λ c. Unit) ws a
  pub probabilities : (p : Float) (ws : List ℕ) (a : Answer) → DrawAllows (geometric p) ws a → Demanded (geometric p) (λ c. Unit) ws a
