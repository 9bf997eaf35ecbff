-- `lines::put_number` meets its contract: the digits, and the byte right after them. Assumes nothing.
use Rattle.std.proofs.Common.{rules}
use Rattle.writing.proofs.Writing.{written_next}
use Rattle.lines.proofs.put_number.Goals as goal

pub returns : goal.returns
returns c = written_next _ _ _ _ _ _ _ _ c.put_decimal-next.ensures (search rules)
