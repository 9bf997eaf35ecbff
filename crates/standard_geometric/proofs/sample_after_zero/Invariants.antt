-- What the loop of `standard_geometric::sample_after_zero` keeps: reading on from here, with this many zeros, gives what reading on from the
-- second word gives, and every word before was 0, so that the sum fits. Assumes nothing.
use Rattle.std.proofs.Common.{◌≡◌, ◌-◌, ◌*◌, drop, length}
use Rattle.words.specs.Rule.{more, read}
use Rattle.standard_geometric.specs.Standard.{standard_rule}
use Rattle.standard_geometric.proofs.sample_after_zero.Given as goal

abbrev pub invariant-loop-w : goal.invariant-loop-w
invariant-loop-w l =
    (l.result ≡ 64 * l.used) × (read standard_rule (drop 1 l.tape) (more 64) 1 ≡ read standard_rule (drop l.used l.tape) (more l.result) l.used)

abbrev pub decreases-loop-w : goal.decreases-loop-w
decreases-loop-w l = length l.tape - l.used
