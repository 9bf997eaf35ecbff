-- What a call comes to in the rules' terms (RULES, 'Refusals'; that a refusal has count 0 and used 0: 'Demands', 1). Assumes nothing.
use Rattle.std.specs.Prelude.{ℕ}

-- what was drawn and the number of words used, or the refusal's number
pub data Outcome (A : Type 0) : Type 0 where
  drawn : A → ℕ → Outcome A
  refused : ℕ → Outcome A

-- the count: a refusal carries 0
abbrev pub count_of : Outcome ℕ → ℕ
count_of (drawn c u) = c
count_of (refused n) = 0

-- the words used: a refusal carries 0
abbrev pub used_of : {A : Type 0} → Outcome A → ℕ
used_of (drawn a u) = u
used_of (refused n) = 0
