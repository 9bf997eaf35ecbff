-- `redraws::redraw` meets its contract: what the entries left at first are, and the first of those that are left. Assumes nothing.
use Rattle.std.proofs.Common.{◌∙◌}
use Rattle.opening.proofs.Opening.{sound_opening}
use Rattle.redraws.proofs.Redrawing.{redraw_starts, on_first, differs_here}
use Rattle.redraws.proofs.redraw.Goals as goal

pub loop-entry-init : goal.loop-entry-init
loop-entry-init c =
    redraw_starts _ _ c.in_ok-standing.standing (sound_opening _ _ _ _ c.in_ok-standing.ensures) c.type_inv.book _
    (c.into_iter-entry-iterator.ensures.into_iter_gives ∙ c.of-entry-items.ensures)

pub agrees_on-requires : goal.agrees_on-requires
agrees_on-requires c = (on_first _ _ _ c.in-Some.ensures.steps _ c.loop-entry.invariant.0).0

pub returns-then-not-agrees_on : goal.returns-then-not-agrees_on
returns-then-not-agrees_on c =
    differs_here _ _ c.in_ok-standing.standing (sound_opening _ _ _ _ c.in_ok-standing.ensures) _ c.loop-entry.invariant.1 _ _ c.in-Some.ensures.steps _
    c.agrees_on.ensures c.if-not-agrees_on.true
