-- `standard_geometric::sample_after_zero` meets its contract. Assumes nothing.
use Rattle.std.proofs.Common.{◌≡◌, ◌≤◌, ◌<◌, Some, sym, ap, ◌∙◌, arith}
use borrow.Author.Tests.{eq-eqb, ne_eqb}
use lib.Count.{count_leading_zeros, leading_of_zero, leading_le}
use Rattle.words.specs.Inner.{word_at}
use Rattle.words.proofs.Ended.{ended}
use Rattle.words.proofs.Tape.{word_there}
use Rattle.words.proofs.Reading.{read_done, read_at, read_end}
use Rattle.standard_geometric.specs.Standard.{standard_rule}
use Rattle.standard_geometric.proofs.Zeros.{fewer_zeros, all_zeros}
use Rattle.standard_geometric.proofs.sample_after_zero.Goals as goal

pub returns-in_err-w : goal.returns-in_err-w
returns-in_err-w c =
    let l = c.loop-w in
    let e = sym c.word_at.ensures ∙ c.in_err-w.ensures.ok_part in
    ended _ _ _ c.in_err-w.ensures.value c.from_residual.ensures.1
    ∙ sym (l.invariant.1 ∙ read_end standard_rule c.args.tape.now l.used l.result l.used e)

pub overflow_add-result : goal.overflow_add-result
overflow_add-result c =
    let l = c.loop-w in
    let h = (word_there c.args.tape.now l.used _ (sym c.word_at.ensures ∙ c.in_ok-w.ensures.ok_part)).0 in
    let m : count_leading_zeros 64 c.in_ok-w.w ≤ 64 = leading_le 64 c.in_ok-w.w in
    omega arith

pub overflow_add-used : goal.overflow_add-used
overflow_add-used c = let h = (word_there c.args.tape.now c.loop-w.used _ (sym c.word_at.ensures ∙ c.in_ok-w.ensures.ok_part)).0 in omega arith

pub loop-w-smaller : goal.loop-w-smaller
loop-w-smaller c = let h = (word_there c.args.tape.now c.loop-w.used _ (sym c.word_at.ensures ∙ c.in_ok-w.ensures.ok_part)).0 in omega arith

pub loop-w-preserved : goal.loop-w-preserved
loop-w-preserved c =
    let l = c.loop-w in
    let w = c.in_ok-w.w in
    let there : word_at c.args.tape.now l.used ≡ Some w = sym c.word_at.ensures ∙ c.in_ok-w.ensures.ok_part in
    let m : 64 ≤ count_leading_zeros 64 w = omega arith in
    let z = all_zeros w m in
    let n : count_leading_zeros 64 w ≡ 64 = ap (count_leading_zeros 64) z ∙ leading_of_zero 64 in
    (omega arith, l.invariant.1 ∙ read_at standard_rule _ l.used w l.result l.used there ∙ simp (eq-eqb w 0 z, ← c.from-x.ensures))

pub returns : goal.returns
returns c =
    let l = c.loop-w in
    let w = c.in_ok-w.w in
    let there : word_at c.args.tape.now l.used ≡ Some w = sym c.word_at.ensures ∙ c.in_ok-w.ensures.ok_part in
    let h : count_leading_zeros 64 w < 64 = omega arith in
    sym (l.invariant.1 ∙ read_at standard_rule _ l.used w l.result l.used there ∙ simp (ne_eqb w 0 (fewer_zeros w h), read_done standard_rule, ← c.from-x.ensures))
