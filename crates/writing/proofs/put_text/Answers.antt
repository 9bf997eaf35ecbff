-- `writing::put_text` meets its contract: the part that is written is a run of stores. Assumes nothing.
use Rattle.std.proofs.Common.{arith, refl}
use Rattle.bytes_le.proofs.Runs.{part_stored}
use Rattle.writing.proofs.put_text.Goals as goal

pub returns : goal.returns
returns c = record {
  bytes = rw c.copy_from_slice.ensures.after (part_stored c.args.out.now c.args.text.now c.args.at _ (omega arith) (omega arith));
  place = refl;
  room = omega arith;
}
