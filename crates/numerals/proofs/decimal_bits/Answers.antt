-- `numerals::decimal_bits` meets its contract: the digits before the point, and those after it. Assumes nothing.
use Rattle.std.proofs.Common.{rules, arith, ◌≡◌, ℕ, List, ◌+◌, ◌-◌, Some, None, cond, length, take, drop, sym, ap, ◌∙◌, add-one}
use Rattle.std.proofs.lemmas.Iterator.{YieldsList-from_slice}
use Rattle.std.proofs.lemmas.Iterator.Search.{position_from_yields_List}
use borrow.Author.Tests.{tests}
use lib.Dec.{eqb}
use lib.ListN.{length-drop}
use lib.Seq.{take_all}
use Rattle.numerals.specs.Split.{index_of, up_to, past, has}
use Rattle.numerals.specs.Digits.{number}
use Rattle.numerals.specs.Decimal.{point}
use Rattle.numerals.specs.Inner.{placed}
use Rattle.numerals.proofs.Reading.{number_within, found_none, found_at, all_before, most_whole, decimal_unread, decimal_whole, decimal_placed}
use Rattle.numerals.proofs.decimal_bits.Goals as goal
use Rattle.numerals.proofs.decimal_bits.Goals.{After-position}

found : (c : After-position) → c.position.result ≡ cond (has point c.args.text.now) (Some (index_of point c.args.text.now)) None
unfolding has index_of
found c = position_from_yields_List (λ x. eqb x 46) _ _ _ c.position.ensures.ran (YieldsList-from_slice _ c.iter.ensures.rest) (λ x b q k. search (rules, tests))

-- what is handed on where the point is at i
module _ (text : List ℕ) (i : ℕ) (e : index_of point text ≡ i) where
  front : take i text ≡ up_to point text
  unfolding up_to
  front = ap (λ (n : ℕ). take n text) (sym e)

  back : take (length text - (i + 1)) (drop (i + 1) text) ≡ past point text
  unfolding past
  back =
      take_all (length text - (i + 1)) (drop (i + 1) text) (omega (arith, length-drop (i + 1) text))
      ∙ rw (add-one, e)

pub returns-in_err-whole : goal.returns-in_err-whole
returns-in_err-whole c =
    let no_point = found_none point c.args.text.now _ (found ((goal.at.returns-in_err-whole c).After-position)) c.in_default.is in
    rw c.from_residual.ensures (sym (decimal_unread c.args.text.now (ap (number 10 most_whole) (all_before point c.args.text.now no_point) ∙ sym c.in_err-whole.ensures)))

pub nearest-requires : goal.nearest-requires
nearest-requires c =
    let small = number_within 10 _ c.in_ok-whole.whole _ (sym c.in_ok-whole.ensures) in
    search rules

pub returns-in_default : goal.returns-in_default
returns-in_default c =
    let no_point = found_none point c.args.text.now _ (found ((goal.at.returns-in_default c).After-position)) c.in_default.is in
    ap Some c.nearest.ensures
    ∙ sym (decimal_whole c.args.text.now c.in_ok-whole.whole (ap (number 10 most_whole) (all_before point c.args.text.now no_point) ∙ sym c.in_ok-whole.ensures) no_point)

pub returns-in_err-whole-2 : goal.returns-in_err-whole-2
returns-in_err-whole-2 c =
    let at = found_at point c.args.text.now _ (found ((goal.at.returns-in_err-whole-2 c).After-position)) c.in-Some.point c.in-Some.is in
    rw c.from_residual-in_err-whole-2.ensures
    (sym (decimal_unread c.args.text.now (ap (number 10 most_whole) (sym (front c.args.text.now c.in-Some.point at.1)) ∙ sym c.in_err-whole-2.ensures)))

pub with_places-requires : goal.with_places-requires
with_places-requires c = omega (arith, number_within 10 _ c.in_ok-whole-2.whole _ (sym c.in_ok-whole-2.ensures))

pub returns : goal.returns
returns c =
    let at = found_at point c.args.text.now _ (found ((goal.at.returns c).After-position)) c.in-Some.point c.in-Some.is in
    c.with_places.ensures
    ∙ ap (placed c.in_ok-whole-2.whole) (back c.args.text.now c.in-Some.point at.1)
    ∙ sym
    (decimal_placed c.args.text.now c.in_ok-whole-2.whole
    (ap (number 10 most_whole) (sym (front c.args.text.now c.in-Some.point at.1)) ∙ sym c.in_ok-whole-2.ensures) at.0)
