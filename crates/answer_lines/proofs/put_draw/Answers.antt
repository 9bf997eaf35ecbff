-- `answer_lines::put_draw` meets its contract: the text, and the words after it one by one. Assumes nothing.
use Rattle.writing.proofs.Writing.{written_next}
use Rattle.answer_lines.proofs.Refusals.{counts_written}
use Rattle.answer_lines.proofs.put_draw.Goals as goal

pub returns : goal.returns
returns c =
    written_next _ _ _ _ _ _ _ _ c.put_text-next.ensures
    (counts_written _ _ _ _ c.from.ensures c.put_text-next-2.ensures c.put_number-next.ensures c.put_text-next-3.ensures c.put_number-next-2.ensures c.put_numbered.ensures)
