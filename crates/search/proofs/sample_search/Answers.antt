-- `search::sample_search` meets its contract. Assumes nothing.
use Rattle.std.proofs.Common.{◌≡◌, ◌^◌, Some, sym, ◌∙◌, arith}
use Rattle.words.specs.Inner.{word_at}
use Rattle.words.proofs.Tape.{word_there}
use Rattle.words.proofs.Ended.{ended}
use Rattle.words.proofs.Reading.{read_end}
use Rattle.search.specs.Search.{search_rule, first_run}
use Rattle.search.proofs.Turns.{run_on, run_over}
use Rattle.search.proofs.sample_search.Goals as goal

pub returns-in_err-ok_or : goal.returns-in_err-ok_or
returns-in_err-ok_or c =
    let l = c.loop-d in
    let s = c.args.squared in
    let e = sym c.word_at.ensures ∙ c.in_err-ok_or.ensures.ok_part in
    ended _ _ _ c.in_err-ok_or.ensures.value c.from_residual.ensures.1
    ∙ sym (l.invariant.1 ∙ read_end (search_rule s.q (2 ^ s.k) s.pi) c.args.tape.now l.d (first_run l.d) l.d e)

pub loop-d-smaller : goal.loop-d-smaller
loop-d-smaller c = let h = (word_there c.args.tape.now c.loop-d.d _ (sym c.word_at.ensures ∙ c.in_ok-ok_or.ensures.ok_part)).0 in omega arith

pub loop-d-preserved : goal.loop-d-preserved
loop-d-preserved c =
    let s = c.args.squared in
    let there : word_at c.args.tape.now c.loop-d.d ≡ Some c.in_ok-ok_or.field-0 = sym c.word_at.ensures ∙ c.in_ok-ok_or.ensures.ok_part in
    let h = (word_there c.args.tape.now c.loop-d.d _ there).0 in
    (omega arith, run_on s.q (2 ^ s.k) s.pi _ _ _ _ c.loop-d.invariant.1 there c.fraction.ensures c.if-fraction-squared.true)

pub returns : goal.returns
returns c =
    let s = c.args.squared in
    let there : word_at c.args.tape.now c.loop-d.d ≡ Some c.in_ok-ok_or.field-0 = sym c.word_at.ensures ∙ c.in_ok-ok_or.ensures.ok_part in
    run_over s.q (2 ^ s.k) s.pi _ _ _ _ c.loop-d.invariant.1 there c.fraction.ensures c.if-fraction-squared.false _ c.sample_remainder.ensures
