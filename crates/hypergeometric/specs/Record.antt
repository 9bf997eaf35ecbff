-- RULES, 'The inversion': the set-up record, as contracts see it. Assumes nothing.
use Rattle.std.specs.Prelude.{ℕ, Float}
use Rattle.hypergeometric.specs.declared.Sign.{Sign}

-- the reduction's numbers and the probability of x = 0
pub record Record : Type 0 where
  pub n1 : ℕ
  pub n2 : ℕ
  pub k : ℕ
  pub offset : ℕ
  pub sign : Sign
  pub first : Float
