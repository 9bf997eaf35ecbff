-- `first_probability::fraction_of_products_of_factorials` meets its contract. Assumes nothing.
use Rattle.std.proofs.Common.{sym, ◌∙◌}
use lib.Ieee.{of_bits, round}
use Rattle.first_probability.specs.First.{fraction_of_factorials}
use Rattle.first_probability.proofs.Factors.{factors_more, factors_end}
use Rattle.first_probability.proofs.fraction_of_products_of_factorials.Goals as goal

pub loop-i-init : goal.loop-i-init
unfolding fraction_of_factorials of_bits round
loop-i-init c = cc

pub loop-i-preserved : goal.loop-i-preserved
loop-i-preserved c =
    c.loop-i.invariant ∙ factors_more _ _ _ _ _ c.loop-i.i c.loop-i.result c.loop-i-test.true ∙ simp (← c.at_factor-result.ensures)

pub returns : goal.returns
returns c = sym (c.loop-i.invariant ∙ factors_end _ _ _ _ _ c.loop-i.i c.loop-i.result c.loop-i-test.false)
