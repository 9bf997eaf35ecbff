-- `bytes_le::wipe` meets its contract: the part that is filled is the one that is wiped. Assumes nothing.
use Rattle.std.proofs.Common.{rules, arith, ap, ◌≡◌, ◌∙◌, ℕ, ◌-◌, length, take, drop, replicate}
use Rattle.std.proofs.lemmas.List.Edits.{length-between}
use Rattle.bytes_le.proofs.Zeros.{part_wiped}
use Rattle.bytes_le.proofs.wipe.Goals as goal

pub returns : goal.returns
returns c =
    let many : length (take (c.args.to - c.args.from) (drop c.args.from c.args.bytes.now)) ≡ c.args.to - c.args.from =
    length-between c.args.bytes.now c.args.from c.args.to (omega arith) in
    let zeros : c.fill.new.self ≡ replicate (c.args.to - c.args.from) 0 = c.fill.ensures.after (λ y k. search rules) ∙ ap (λ (n : ℕ). replicate n 0) many in
    rw zeros (part_wiped c.args.bytes.now c.args.from c.args.to (search rules))
