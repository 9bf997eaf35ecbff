-- `answer_lines::put_refused_by` meets its contract: the text, the number and the name, one after another. Assumes nothing.
use Rattle.std.proofs.Common.{◌∙◌}
use Rattle.answer_lines.proofs.Refusals.{refused_written}
use Rattle.answer_lines.proofs.put_refused_by.Goals as goal

pub returns : goal.returns
returns c = refused_written _ _ _ (c.from-2.ensures ∙ c.from.ensures) c.put_text-next.ensures c.put_number-next.ensures c.put_name.ensures
