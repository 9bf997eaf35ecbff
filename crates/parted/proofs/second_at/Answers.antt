-- `parted::second_at` meets its contract: past the first space, or at the end where there is none. Assumes nothing.
use Rattle.std.proofs.Common.{rules, arith, ◌≡◌, ℕ, List, ◌+◌, ◌≤◌, Some, None, cond, length, drop, sym, ◌∙◌, add-one, refl, suc, true, false}
use Rattle.std.proofs.lemmas.Iterator.{YieldsList-from_slice}
use Rattle.std.proofs.lemmas.Iterator.Search.{position_from_yields_List}
use borrow.Author.Tests.{tests, ltb-true, ltb-false}
use lib.Dec.{eqb}
use lib.ListN.{drop_of_length-le}
use Rattle.numerals.specs.Split.{index_of, past, has}
use Rattle.numerals.proofs.Reading.{found_none, found_at}
use Rattle.parted.specs.Parts.{space}
use Rattle.parted.proofs.second_at.Goals as goal
use Rattle.parted.proofs.second_at.Goals.{After-position}

found : (c : After-position) → c.position.result ≡ cond (has space c.args.text.now) (Some (index_of space c.args.text.now)) None
unfolding has index_of
found c = position_from_yields_List (λ x. eqb x 32) _ _ _ c.position.ensures.ran (YieldsList-from_slice _ c.iter.ensures.rest) (λ x b q k. search (rules, tests))

there : (l : List ℕ) (i : ℕ) → has space l ≡ true → index_of space l ≡ i → (i + 1 ≤ length l) × (drop (i + 1) l ≡ past space l)
unfolding has past
there l i h e = (omega (arith, ltb-true (index_of space l) (length l) h), rw (← e, add-one) refl)

nowhere : (l : List ℕ) → has space l ≡ false → drop (length l) l ≡ past space l
unfolding has past
nowhere l h =
    let end : length l ≤ index_of space l = ltb-false (index_of space l) (length l) h in
    drop_of_length-le l {i = length l} (omega arith) ∙ sym (drop_of_length-le l {i = suc (index_of space l)} (omega (arith, end)))

pub returns-in-Some : goal.returns-in-Some
returns-in-Some c =
    let at = found_at space c.args.text.now _ (found ((goal.at.returns-in-Some c).After-position)) c.in-Some.i c.in-Some.is in
    there c.args.text.now c.in-Some.i at.0 at.1

pub returns-in-None : goal.returns-in-None
returns-in-None c = (omega arith, nowhere c.args.text.now (found_none space c.args.text.now _ (found ((goal.at.returns-in-None c).After-position)) c.in-None.is))
