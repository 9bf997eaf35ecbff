-- `fresh_at`: what the draw answered, and its refusal in order. Assumes nothing.
use Rattle.std.proofs.Common.{rules, ◌≡◌, ◌-◌, ◌&&◌, cond, length, ap, sym, ◌∙◌}
use Rattle.std.proofs.lemmas.Result.{err_from_is_err_and}
use lib.Dec.{ltb}
use Rattle.words.specs.Paper.{number_of, paper}
use Rattle.words.specs.Inner.{is_short}
use Rattle.book.proofs.Fresh.{mapped_err, mapped_ok, lent_refused, lent_booked}
use Rattle.book.proofs.fresh_at.Goals as goal

pub returns-in_err-draw : goal.returns-in_err-draw
returns-in_err-draw c =
    let p = mapped_err _ _ _ _ c.in_err-draw.was c.map_err.ensures.cases in
    let x = err_from_is_err_and c.from_residual.result c.from_residual.ensures.1 in
    let q = p.2 in
    let h : number_of c.in_err-draw.field-0.0 ≡ cond (ltb (length c.args.book.now - c.args.standing.end) c.length_of.result && is_short (number_of p.0)) 15 (number_of p.0) = search rules in
    rw (x.1, x.2) (lent_refused _ _ _ _ c.requires _ c.length_of.ensures (number_of p.0) _ (ap paper (sym p.1) ∙ c.draw.ensures) h)

pub returns : goal.returns
returns c =
    let p = mapped_ok _ _ _ _ c.in_ok-draw.was c.map_err.ensures.cases in
    lent_booked _ _ _ _ c.requires _ c.length_of.ensures c.in_ok-draw.draw (ap paper (sym p) ∙ c.draw.ensures) (search rules) _ c.entry_of.ensures _ c.put_entry.ensures
