-- `request_line::words` meets its contract: the parts between spaces are counted. Assumes nothing.
use Rattle.std.proofs.Common.{rules, ◌∙◌}
use Rattle.std.proofs.lemmas.Iterator.Consumers.{count_from_yields_List}
use Rattle.std.proofs.lemmas.Iterator.Splits.{YieldsList-from_slice_split}
use Rattle.std.proofs.lemmas.List.Splits.{length-slice_split}
use borrow.Author.Tests.{tests}
use lib.Dec.{eqb}
use Rattle.parted.specs.Parts.{space}
use Rattle.request_line.specs.Words.{spaces, words}
use Rattle.request_line.proofs.words.Goals as goal

pub returns : goal.returns
unfolding words spaces
returns c =
    count_from_yields_List c.split.result _ c.count.ensures.ran
    (YieldsList-from_slice_split _ (λ x. eqb x space) c.args.line.now c.split.ensures.rest c.split.ensures.done c.split.ensures.closure
    (λ x b q k. search (rules, tests)))
    ∙ length-slice_split (λ x. eqb x space) c.args.line.now
