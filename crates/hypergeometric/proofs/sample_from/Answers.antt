-- `hypergeometric::sample_from` meets its contract. Assumes nothing.
use Rattle.std.proofs.Common.{◌≡◌, sym, ◌∙◌}
use Rattle.std.proofs.lemmas.Result.{err_from_is_err_and}
use Rattle.words.specs.declared.Refusal.TheVariants.{Exhausted}
use Rattle.words.specs.Rule.{reading}
use Rattle.words.proofs.Reading.{read_done, read_at, read_end}
use Rattle.words.specs.Draw.{shorts, draw}
use Rattle.words.proofs.Short.{ends_same}
use Rattle.hypergeometric.specs.Hypergeometric.{counted, inversion_rule}
use Rattle.hypergeometric.proofs.Kept.{inverted_lands}
use Rattle.hypergeometric.proofs.sample_from.Goals as goal

pub returns-then-too_long : goal.returns-then-too_long
unfolding draw
returns-then-too_long c = simp (sym c.too_long.ensures ∙ c.if-too_long.true)

pub returns-in_err-w : goal.returns-in_err-w
unfolding draw
returns-in_err-w c =
    let a = c.args in
    let p = err_from_is_err_and c.from_residual.result c.from_residual.ensures.1 in
    let none = c.in_err-w.ensures.ok_part in
    let x : c.in_err-w.field-0.0 ≡ Exhausted = let v = simp none at c.in_err-w.ensures.value in cc in
    let e = sym c.word_at.ensures ∙ none in
    let o = reading (inversion_rule a.kept) a.tape.now in
    rw (p.1, p.2, x)
    (simp (sym c.too_long.ensures ∙ c.if-too_long.false)
    (sym (ends_same shorts o ∙ read_end (inversion_rule a.kept) a.tape.now 0 tt 0 e)))

pub land-count-requires : goal.land-count-requires
land-count-requires c =
    inverted_lands _ c.kept.invariant c.fraction.result c.invert-x.result (rw (← c.kept.view_is) at c.invert-x.ensures)

pub returns : goal.returns
unfolding draw counted
returns c =
    let r = inversion_rule c.args.kept in
    let ws = c.args.tape.now in
    let e = sym c.word_at.ensures ∙ c.in_ok-w.ensures.ok_part in
    rw (sym c.too_long.ensures ∙ c.if-too_long.false)
    (sym (ends_same shorts (reading r ws) ∙ read_at r ws 0 c.in_ok-w.w tt 0 e ∙ read_done r _ _ _
    ∙ simp (c.land-count.ensures, c.invert-x.ensures, c.fraction.ensures, ← c.kept.view_is)))
