-- `lines::put_numbered` meets its contract: the text, and the number right after it. Assumes nothing.
use Rattle.std.proofs.Common.{arith}
use Rattle.writing.proofs.Writing.{written_next, length_decimal}
use Rattle.lines.proofs.put_numbered.Goals as goal

pub put_number-requires : goal.put_number-requires
put_number-requires c = omega (arith, length_decimal c.args.n 20 (omega arith) (omega arith))

pub returns : goal.returns
returns c = written_next _ _ _ _ _ _ _ _ c.put_text-next.ensures c.put_number.ensures
