-- RULES, 'Refusals': a call's refusals are a list of numbers and conditions in the call's order, and the first that holds is given.
-- Assumes nothing.
use Rattle.std.specs.Prelude.{ℕ, Bool, true, false, cond, List, [], ◌∷◌, ◌⊎◌, ◌≡◌}
use Rattle.words.specs.Outcome.{Outcome, refused}

-- a refusal's number and whether its condition holds
pub record Condition : Type 0 where
  pub number : ℕ
  pub holds : Bool

infix 70 ◌on◌
abbrev pub ◌on◌ : ℕ → Bool → Condition
n on b = record { number = n; holds = b }

-- the first refusal whose condition holds, or what the call comes to where none does
abbrev pub given : {A : Type 0} → List Condition → Outcome A → Outcome A
given [] o = o
given (c ∷ cs) o = cond c.holds (refused c.number) (given cs o)

-- n is the number of a condition that holds, and none earlier in the list does
abbrev pub First : ℕ → List Condition → Type 0
First n [] = ⊥
First n (c ∷ cs) = ((c.holds ≡ true) × (c.number ≡ n)) ⊎ ((c.holds ≡ false) × First n cs)

-- no condition of the list holds
abbrev pub NoneHolds : List Condition → Type 0
NoneHolds [] = Unit
NoneHolds (c ∷ cs) = (c.holds ≡ false) × NoneHolds cs
