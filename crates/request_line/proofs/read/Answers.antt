-- `request_line::read` meets its contract: the line's end, and then its text. Assumes nothing.
use Rattle.std.proofs.Common.{rules, ◌≡◌, sym, ◌∙◌}
use Rattle.std.proofs.lemmas.Bool.Decides.{Decides-eqb}
use Rattle.std.proofs.lemmas.Iterator.{YieldsList-from_slice}
use Rattle.std.proofs.lemmas.Iterator.Search.{any_from_yields_List}
use Rattle.std.proofs.lemmas.Option.{MatchOption-at_none, MatchOption-at_some}
use Rattle.std.proofs.lemmas.Slice.Eq.{strip_suffix_is}
use borrow.Author.Tests.{tests}
use mathlib.Core.Bool.{◌||◌}
use lib.Dec.{eqb}
use Rattle.std.specs.List.{list_any}
use Rattle.request_line.specs.Ends.{newline, carriage_return}
use Rattle.request_line.proofs.Ending.{LeftOf, unended, left_of, byte_left, bare_left}
use Rattle.request_line.proofs.read.Goals as goal
use Rattle.request_line.proofs.read.Goals.{After-any}

left : (c : After-any) → LeftOf c.args.line.now c.unwrap_or-bare.result.now
left c =
    rw c.unwrap_or-bare.ensures
    (left_of c.args.line.now c.in_ok-ended.ended c.strip_suffix-2.result
    (MatchOption-at_some _ _ c.in_ok-ended.ended c.in_ok-ended.was (strip_suffix_is Decides-eqb _ _ c.strip_suffix.result c.strip_suffix.ensures.cases))
    (strip_suffix_is Decides-eqb _ _ c.strip_suffix-2.result c.strip_suffix-2.ensures.cases))

found : (c : After-any) → c.any.result ≡ list_any (λ y. eqb y newline || eqb y carriage_return) c.unwrap_or-bare.result.now
found c =
    any_from_yields_List (λ y. eqb y newline || eqb y carriage_return) _ _ _ c.any.ensures.ran (YieldsList-from_slice _ c.iter.ensures.rest)
    (λ x b q k. search (rules, tests))

pub returns-in_err-ended : goal.returns-in_err-ended
returns-in_err-ended c =
    rw c.from_residual.ensures
    (sym
    (unended c.args.line.now
    (MatchOption-at_none _ _ c.in_err-ended.was (strip_suffix_is Decides-eqb _ _ c.strip_suffix.result c.strip_suffix.ensures.cases))))

pub returns-then-any : goal.returns-then-any
returns-then-any c =
    let here = (goal.at.returns-then-any c).After-any in
    sym (byte_left _ _ (left here) (sym (found here) ∙ c.if-any.true))

pub returns : goal.returns
returns c =
    let here = (goal.at.returns c).After-any in
    c.text.ensures ∙ sym (bare_left _ _ (left here) (sym (found here) ∙ c.if-any.false))
