-- `book_lines::put_entries` meets its contract: the lines of the entries left, written from here on, leave the lines of all. Assumes nothing.
use Rattle.std.proofs.Common.{length, refl, ap, ◌∙◌, arith, rules}
use Rattle.book_lines.proofs.Listed.{entries_all, entries_short, short_first, one_fewer, lines_turn, lines_done}
use Rattle.book_lines.proofs.put_entries.Goals as goal

pub of-entry-items-requires : goal.of-entry-items-requires
of-entry-items-requires c = (entries_all c.args.book.now c.type_inv.book c.requires.0 _ c.requires.1).0

pub loop-entry-init : goal.loop-entry-init
loop-entry-init c =
    let x = entries_short c.args.book.now c.type_inv.book c.requires.0 _ _ c.requires.1 (c.into_iter-entry-iterator.ensures.into_iter_gives ∙ c.of-entry-items.ensures) in
    (x.1, omega (arith, ap length x.0, c.requires.1, c.requires.2), refl, λ m j w. rw x.0 at w)

pub put_entry_line-to-requires : goal.put_entry_line-to-requires
put_entry_line-to-requires c =
    let f = c.in-Some.ensures.steps in
    omega (arith, (short_first _ _ _ f c.loop-entry.invariant.0).0, one_fewer _ _ _ f, c.loop-entry.invariant.1)

pub loop-entry-preserved : goal.loop-entry-preserved
loop-entry-preserved c =
    let w = c.put_entry_line-to.ensures in
    let f = c.in-Some.ensures.steps in
    let r = short_first _ _ _ f c.loop-entry.invariant.0 in (
      r.1,
      omega (arith, w.place, r.0, one_fewer _ _ _ f, c.loop-entry.invariant.1),
      search rules,
      λ m j v. c.loop-entry.invariant.3 m j (lines_turn _ _ _ f w v),
    )

pub returns : goal.returns
returns c = c.loop-entry.invariant.3 _ _ (lines_done _ _ _ c.in-None.ensures.steps.0 (omega (arith, c.loop-entry.invariant.1)))
