-- `banlothek_redraw` meets its contract: the serial that a 17 names fits its field. Assumes nothing.
use Rattle.std.proofs.Common.{Ok, sym, ap, ◌∙◌, arith}
use Rattle.redraws.specs.Redraw.{Redrawing, redrawn}
use Rattle.banlothek.proofs.Fits.{named_fits}
use Rattle.banlothek.proofs.banlothek_redraw.Goals as goal

pub overflow_cast-serial : goal.overflow_cast-serial
overflow_cast-serial c =
    let told = c.in-Ok-Differs.is ∙ ap Ok c.in-Ok-Differs.field-0-is in
    omega (arith, named_fits c.args.tape.now _ (λ j. (c.type_inv.book j).fits) _ (ap (λ (x : Redrawing). x.named) (sym c.redraw.ensures ∙ ap redrawn told)))
