-- `first_probability::first_probability` meets its contract. Assumes nothing.
use Rattle.std.proofs.Common.{arith}
use Rattle.std.proofs.lemmas.Bool.Decides.{nat_tests}
use Rattle.first_probability.specs.First.{first_probability}
use Rattle.first_probability.proofs.first_probability.Goals as goal

pub returns-then-k-n2 : goal.returns-then-k-n2
unfolding first_probability
returns-then-k-n2 c = grind (arith, nat_tests)

pub returns-else-k-n2 : goal.returns-else-k-n2
unfolding first_probability
returns-else-k-n2 c = grind (arith, nat_tests)
