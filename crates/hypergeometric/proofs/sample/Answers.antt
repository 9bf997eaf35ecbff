-- `hypergeometric::sample` meets its contract: the set-up decides the parameters' refusals, and its record the count. Assumes nothing.
use Rattle.std.proofs.Common.{sym, ◌∙◌}
use Rattle.std.proofs.lemmas.Result.{err_from_is_err_and}
use Rattle.words.specs.Draw.{draw}
use Rattle.hypergeometric.specs.Hypergeometric.{hypergeometric}
use Rattle.hypergeometric.proofs.Kept.{refused_draw, kept_draw}
use Rattle.hypergeometric.proofs.sample.Goals as goal

pub returns-then-too_long : goal.returns-then-too_long
unfolding draw hypergeometric
returns-then-too_long c = simp (sym c.too_long.ensures ∙ c.if-too_long.true)

pub returns-in_err-kept : goal.returns-in_err-kept
returns-in_err-kept c =
    let a = c.args in
    let p = err_from_is_err_and c.from_residual.result c.from_residual.ensures.1 in
    let within = sym c.too_long.ensures ∙ c.if-too_long.false in
    rw (p.1, p.2)
    (sym (refused_draw a.total_population_size a.population_with_feature a.sample_size _ a.tape.now within (sym c.in_err-kept.ensures)))

-- the record is the set-up's
pub returns : goal.returns
returns c =
    let a = c.args in
    c.sample_from.ensures
    ∙ kept_draw c.in_ok-kept.kept
    (record { N = a.total_population_size; K = a.population_with_feature; n = a.sample_size; gives = sym c.in_ok-kept.ensures })
    a.tape.now
