-- `agrees_on` meets its contract: the request drawn again from its place, against what is booked. Assumes nothing.
use Rattle.std.proofs.Common.{refl, ◌∙◌}
use Rattle.redraws.proofs.Redrawing.{agree_equal}
use Rattle.redraws.proofs.agrees_on.Goals as goal

pub returns : goal.returns
returns c = c.eq.ensures ∙ agree_equal c.args.tape.now c.args.entry _ _ (λ a b. refl) _ c.from.ensures c.draw.result c.draw.ensures
