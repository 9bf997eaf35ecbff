-- The draw of one request of any kind (RULES, 'The book', the table of kinds). Assumes nothing.
use Rattle.std.specs.Prelude.{ℕ, List}
use Rattle.std.specs.Float.{binary64}
use Rattle.std.specs.Float.Ieee.{of_bits}
use Rattle.words.specs.Paper.{Answer}
use Rattle.words.specs.Outcome.{Outcome}
use Rattle.words.specs.Refusals.{Condition}
use Rattle.words.specs.Draw.{Drawing, draw, DrawAllows}
use Rattle.poisson.specs.Poisson.{poisson}
use Rattle.geometric.specs.Geometric.{geometric}
use Rattle.standard_geometric.specs.Standard.{standard_geometric}
use Rattle.hypergeometric.specs.Reduction.{InSupport}
use Rattle.hypergeometric.specs.Hypergeometric.{hypergeometric}
use Rattle.kinds.specs.declared.Request.{Request}
use Rattle.kinds.specs.declared.Request.TheVariants.{Hypergeometric, Poisson, Geometric, StandardGeometric}

-- each kind is drawn by its own rule, floats by their bits
abbrev pub drawing : Request → Drawing ℕ
drawing (Hypergeometric N K n) = hypergeometric N K n
drawing (Poisson T) = poisson (of_bits binary64 T)
drawing (Geometric p) = geometric (of_bits binary64 p)
drawing StandardGeometric = standard_geometric

-- what an accepted count keeps to: hypergeometric counts lie in max(0, n+K-N) to min(n, K)
abbrev pub Supported : Request → ℕ → Type 0
Supported (Hypergeometric N K n) c = InSupport N K n c
Supported (Poisson T) c = Unit
Supported (Geometric p) c = Unit
Supported StandardGeometric c = Unit

-- a request's parameters' refusals, in their order
abbrev pub parameter_refusals : Request → List Condition
parameter_refusals r = (drawing r).refusals

-- what its rule comes to over the words, where no parameter is refused
abbrev pub reading_of : Request → List ℕ → Outcome ℕ
reading_of r ws = (drawing r).reads ws

-- the draw
abbrev pub draw_of : Request → List ℕ → Outcome ℕ
draw_of r ws = draw (drawing r) ws

-- The contract of `draws::draw`: the answer a to the request r over the words ws is that of its drawing.
abbrev pub Answers : Request → List ℕ → Answer → Type 0
Answers r ws a = DrawAllows (drawing r) ws a
