-- `parted::word` meets its contract: the parts between spaces are the words. Assumes nothing.
use Rattle.std.proofs.Common.{rules, ◌≡◌, ℕ, List, [], Option, None, Some, Bor, refl, ap, ◌∙◌}
use Rattle.std.specs.Option.{option_map, unwrap_or}
use Rattle.std.proofs.lemmas.Iterator.Consumers.{nth_from_yields_List}
use Rattle.std.proofs.lemmas.Iterator.Splits.{YieldsList-from_slice_split}
use Rattle.std.proofs.lemmas.Option.{unwrap_or-slice_get}
use borrow.Author.Tests.{tests}
use lib.Dec.{eqb}
use Rattle.parted.specs.Parts.{space}
use Rattle.parted.proofs.Parting.{word_split}
use Rattle.parted.proofs.word.Goals as goal

-- what a reference that is there points to, or what the other one does
now_or : (o : Option (Bor (List ℕ))) (d : Bor (List ℕ)) → (unwrap_or o d).now ≡ unwrap_or (option_map (λ x. x.now) o) d.now
now_or None d = refl
now_or (Some x) d = refl

pub returns : goal.returns
returns c =
    ap (λ (b : Bor (List ℕ)). b.now) c.unwrap_or.ensures
    ∙ now_or c.nth.result _
    ∙ ap (λ (o : Option (List ℕ)). unwrap_or o [])
    (nth_from_yields_List c.nth.result _ c.args.k c.nth.ensures.ran
    (YieldsList-from_slice_split _ (λ x. eqb x space) c.args.text.now c.split.ensures.rest c.split.ensures.done c.split.ensures.closure
    (λ x b q k. search (rules, tests))))
    ∙ unwrap_or-slice_get _ c.args.k []
    ∙ word_split c.args.k c.args.text.now
