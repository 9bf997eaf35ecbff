-- `bytes_le::write_le` meets its contract: each turn writes one byte more, from the lowest up. Assumes nothing.
use Rattle.std.proofs.Common.{rules, arith, ◌≡◌, ◌+◌, ◌-◌, ◌∙◌, length, take, drop}
use Rattle.std.proofs.lemmas.List.Edits.{length-between}
use Rattle.bytes_le.specs.LittleEndian.{bytes_of}
use Rattle.bytes_le.proofs.Numbers.{length_bytes, write_turn, write_done}
use Rattle.bytes_le.proofs.Runs.{part_stored}
use Rattle.bytes_le.proofs.write_le.Goals as goal

pub loop-byte-preserved : goal.loop-byte-preserved
loop-byte-preserved c =
    write_turn c.loop-byte.byte-items c.args.width c.loop-byte.byte-index c.loop-byte.left (search rules) (search rules) ∙ c.loop-byte.invariant

pub returns : goal.returns
returns c =
    let many : length (take (c.args.at + c.args.width - c.args.at) (drop c.args.at c.args.bytes.now)) ≡ c.args.at + c.args.width - c.args.at =
    length-between c.args.bytes.now c.args.at (c.args.at + c.args.width) (omega arith) in
    let whole : c.loop-byte.byte-items ≡ bytes_of c.args.width c.args.number =
    write_done c.loop-byte.byte-items _ c.args.width c.loop-byte.byte-index c.loop-byte.left (omega arith) (omega arith) c.loop-byte.invariant in
    rw whole
    (part_stored c.args.bytes.now (bytes_of c.args.width c.args.number) c.args.at _ (omega (arith, length_bytes c.args.width c.args.number)) (omega arith))
