-- What inner functions ask of their arguments: no entry point's contract and no demand rests on it. Assumes nothing.
use Rattle.std.specs.Prelude.{ℕ, ◌+◌, ◌*◌, ◌^◌, ◌≤◌, ◌<◌}
use Rattle.hypergeometric.specs.declared.Sign.{Sign}
use Rattle.hypergeometric.specs.declared.Sign.TheVariants.{Plus, Minus}
use Rattle.hypergeometric.specs.Reduction.{population_cap}

-- offset + sign·x is neither below 0 nor past 64 bits
abbrev pub Lands : Sign → ℕ → ℕ → Type 0
Lands Plus offset x = offset + x < 2 ^ 64
Lands Minus offset x = x ≤ offset

-- numbers that the reduction can leave: every whole number of the inversion's steps is a float's
pub record Small (n1 n2 k : ℕ) : Type 0 where
  pub n1≤ : n1 ≤ population_cap
  pub n2≤ : n2 ≤ population_cap
  pub k≤ : k ≤ n2

-- the sizes of the reduction's numbers, for what is added and multiplied with them
pub record Sizes (N n1 n2 k : ℕ) : Type 0 where
  pub n1≤ : n1 ≤ N
  pub n2≤ : n2 ≤ N
  pub k≤ : k ≤ N
  pub product : (k + 1) * (n1 + 1) < 2 ^ 64
