-- `poisson::knuth_method` meets its contract. Assumes nothing.
use Rattle.std.proofs.Common.{◌+◌, sym, ◌∙◌}
use Rattle.words.proofs.Tape.{word_there}
use Rattle.words.proofs.Ended.{ended}
use Rattle.words.proofs.Reading.{read_done, read_at, read_end}
use Rattle.poisson.specs.Poisson.{none, product, knuth_rule}
use Rattle.poisson.proofs.knuth_method.Goals as goal

pub returns-in_err-first : goal.returns-in_err-first
returns-in_err-first c =
    let a = c.args in
    ended _ _ _ c.in_err-first.ensures.value c.from_residual.ensures.1
    ∙ sym (read_end (knuth_rule a.exp_lambda) a.tape.now 0 none 0 (sym c.word_at.ensures ∙ c.in_err-first.ensures.ok_part))

pub loop-p-init : goal.loop-p-init
loop-p-init c =
    let a = c.args in
    let e = sym c.word_at.ensures ∙ c.in_ok-first.ensures.ok_part in
    ((word_there a.tape.now 0 c.in_ok-first.first e).0, read_at (knuth_rule a.exp_lambda) a.tape.now 0 c.in_ok-first.first none 0 e ∙ simp (← c.fraction-p.ensures))

pub returns-in_err-w : goal.returns-in_err-w
returns-in_err-w c =
    let a = c.args in
    let l = c.loop-p in
    let e = sym c.word_at-in-loop-p.ensures ∙ c.in_err-w.ensures.ok_part in
    ended _ _ _ c.in_err-w.ensures.value c.from_residual-in_err-w.ensures.1
    ∙ sym (l.invariant.1 ∙ simp c.loop-p-test.true (read_end (knuth_rule a.exp_lambda) a.tape.now (l.result + 1) (product l.p l.result) (l.result + 1) e))

pub loop-p-preserved : goal.loop-p-preserved
loop-p-preserved c =
    let a = c.args in
    let l = c.loop-p in
    let w = c.in_ok-w.w in
    let e = sym c.word_at-in-loop-p.ensures ∙ c.in_ok-w.ensures.ok_part in
    ((word_there a.tape.now (l.result + 1) w e).0, l.invariant.1 ∙ simp c.loop-p-test.true (read_at (knuth_rule a.exp_lambda) a.tape.now (l.result + 1) w (product l.p l.result) (l.result + 1) e ∙ simp (← c.fraction-p-in-loop-p.ensures)))

pub returns : goal.returns
returns c = sym (c.loop-p.invariant.1 ∙ simp (c.loop-p-test.false, read_done (knuth_rule c.args.exp_lambda)))
