-- `first_probability::Factorials::at_factor` meets its contract: the four steps stand in their order. Assumes nothing.
use Rattle.std.proofs.Common.{arith}
use Rattle.std.proofs.lemmas.Bool.Decides.{nat_tests}
use Rattle.first_probability.specs.First.{times_in, over_in, at_factor}
use Rattle.first_probability.proofs.Factorials.at_factor.Goals as goal

pub returns-then-i-self-4 : goal.returns-then-i-self-4
unfolding at_factor times_in over_in
returns-then-i-self-4 c = grind (arith, nat_tests)

pub returns-else-i-self-4 : goal.returns-else-i-self-4
unfolding at_factor times_in over_in
returns-else-i-self-4 c = grind (arith, nat_tests)
