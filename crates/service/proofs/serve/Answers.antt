-- `service::serve` meets its contract, call by call. Assumes nothing.
use Rattle.std.proofs.Common.{Some, sym, ap, ◌∙◌}
use Rattle.service.proofs.Serving.{silent, met, redraw_met, line_met}
use Rattle.service.proofs.serve.Goals as goal

pub returns-in-Some-Deliver : goal.returns-in-Some-Deliver
returns-in-Some-Deliver c =
    line_met _ _ _ _ _ _ _ _ _ _ (sym c.read.ensures ∙ c.in-Some-Deliver.is ∙ ap Some c.in-Some-Deliver.field-0-is) c.deliver.ensures

pub returns-in-Some-Strike : goal.returns-in-Some-Strike
returns-in-Some-Strike c =
    line_met _ _ _ _ _ _ _ _ _ _ (sym c.read.ensures ∙ c.in-Some-Strike.is ∙ ap Some c.in-Some-Strike.field-0-is) c.strike.ensures

pub returns-in-Some-StrikeFrom : goal.returns-in-Some-StrikeFrom
returns-in-Some-StrikeFrom c =
    line_met _ _ _ _ _ _ _ _ _ _ (sym c.read.ensures ∙ c.in-Some-StrikeFrom.is ∙ ap Some c.in-Some-StrikeFrom.field-0-is) c.strike_from.ensures

pub returns-in-Some-Redraw : goal.returns-in-Some-Redraw
returns-in-Some-Redraw c =
    rw (c.unchanged.ensures.0, c.unchanged.ensures.1)
    (line_met _ _ _ _ _ _ _ _ _ _ (sym c.read.ensures ∙ c.in-Some-Redraw.is ∙ ap Some c.in-Some-Redraw.field-0-is)
    (redraw_met _ _ _ _ _ _ _ c.redraw.ensures c.redrawn_line.ensures))

pub returns-in-Some-Passed : goal.returns-in-Some-Passed
returns-in-Some-Passed c =
    rw (c.unchanged-in-Some-Passed.ensures.0, c.unchanged-in-Some-Passed.ensures.1)
    (line_met _ _ _ _ _ _ _ _ _ _ (sym c.read.ensures ∙ c.in-Some-Passed.is ∙ ap Some c.in-Some-Passed.field-0-is) (met _ _ _ _ _ _ (silent _)))

pub returns-in-None : goal.returns-in-None
returns-in-None c =
    rw (c.unchanged-in-None.ensures.0, c.unchanged-in-None.ensures.1)
    (line_met _ _ _ _ _ _ _ _ _ _ (sym c.read.ensures ∙ c.in-None.is) (met _ _ _ _ _ _ c.unread_line.ensures))
