-- `hypergeometric::by_marked` meets its contract. Assumes nothing.
use Rattle.std.proofs.Common.{arith}
use Rattle.std.proofs.lemmas.Bool.Decides.{nat_tests}
use Rattle.hypergeometric.specs.Reduction.{by_marked}
use Rattle.hypergeometric.proofs.by_marked.Goals as goal

pub returns-then-population_with_feature-population_without_feature :
    goal.returns-then-population_with_feature-population_without_feature
unfolding by_marked
returns-then-population_with_feature-population_without_feature c = grind (arith, nat_tests)

pub returns-else-population_with_feature-population_without_feature :
    goal.returns-else-population_with_feature-population_without_feature
unfolding by_marked
returns-else-population_with_feature-population_without_feature c = grind (arith, nat_tests)
