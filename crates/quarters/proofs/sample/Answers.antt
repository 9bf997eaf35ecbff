-- `quarters::sample` meets its contract: the tests stand in the order of the list of refusals. Assumes nothing.
use Rattle.std.proofs.Common.{sym, ap, ◌∙◌}
use borrow.Author.Tests.{le-leb, lt-leb}
use lib.Ieee.{Float}
use Rattle.words.specs.Rule.{reading}
use Rattle.words.specs.Draw.{shorts, draw}
use Rattle.words.proofs.Short.{ends_same}
use Rattle.poisson.specs.Poisson.{knuth_rule}
use Rattle.quarters.specs.Quarters.{most_quarters, is_mean, threshold_of, quarters}
use Rattle.quarters.proofs.sample.Goals.{else-j-ge1-via-then-j-ge1+else-j-le47, else-j-ge1-via-else-j-ge1}
use Rattle.quarters.proofs.sample.Goals as goal

pub returns-then-too_long : goal.returns-then-too_long
unfolding draw quarters
returns-then-too_long c = simp (sym c.if-too_long.ensures)

pub returns-then-j-le47 : goal.returns-then-j-le47
unfolding draw quarters is_mean
returns-then-j-le47 c =
    c.knuth_method.ensures
    ∙ ap (λ (x : Float). reading (knuth_rule x) c.args.tape.now) c.threshold.ensures
    ∙ simp (sym c.if-too_long.ensures, le-leb 1 c.args.j c.if-j-ge1.true, le-leb c.args.j most_quarters c.if-j-le47.true)
    (sym (ends_same shorts (reading (knuth_rule (threshold_of c.args.j)) c.args.tape.now)))

pub returns : goal.returns
unfolding draw quarters is_mean
returns c =
    let within = sym c.if-too_long.ensures in
    elim c.else-j-ge1.branch [
      | else-j-ge1-via-then-j-ge1+else-j-le47 w ↦
          simp (within, le-leb 1 c.args.j w.if-j-ge1.true, lt-leb c.args.j most_quarters w.if-j-le47.false)
      | else-j-ge1-via-else-j-ge1 w ↦ simp (within, lt-leb 1 c.args.j w.if-j-ge1.false)
    ]
