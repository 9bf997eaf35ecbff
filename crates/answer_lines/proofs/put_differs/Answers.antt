-- `answer_lines::put_differs` meets its contract: a refusal's first words, and 17 is the number of this one. Assumes nothing.
use Rattle.lines.proofs.Lines.{last_words}
use Rattle.answer_lines.proofs.Refusals.{refused_next}
use Rattle.answer_lines.proofs.put_differs.Goals as goal

pub returns : goal.returns
returns c = refused_next 17 _ _ c.put_refused_by-next.ensures (last_words _ _ c.put_numbered.ensures)
