-- `book_lines::put_entry_line` meets its contract: the five numbers, one by one. Assumes nothing.
use Rattle.std.proofs.Common.{◌∙◌}
use Rattle.book_lines.proofs.Listed.{entry_written}
use Rattle.book_lines.proofs.put_entry_line.Goals as goal

pub returns : goal.returns
returns c =
    entry_written c.args.entry (c.from-kind.ensures ∙ c.kind_of.ensures) c.put_number-next.ensures c.put_number-next-2.ensures
    c.put_number-next-3.ensures c.put_number-next-4.ensures c.put_number.ensures
