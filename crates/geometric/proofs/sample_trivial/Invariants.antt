-- What the loop of `geometric::sample_trivial` keeps: reading on from here, with this many failures, gives what the whole reading gives.
-- Assumes nothing.
use Rattle.std.proofs.Common.{◌≡◌, ◌≤◌, ◌-◌, drop, length}
use Rattle.words.specs.Rule.{more, read, reading}
use Rattle.geometric.specs.Geometric.{trivial_rule}
use Rattle.geometric.proofs.sample_trivial.Given as goal

abbrev pub invariant-loop-failures : goal.invariant-loop-failures
invariant-loop-failures l =
    (l.failures ≤ length l.tape) × (reading (trivial_rule l.p) l.tape ≡ read (trivial_rule l.p) (drop l.failures l.tape) (more l.failures) l.failures)

abbrev pub decreases-loop-failures : goal.decreases-loop-failures
decreases-loop-failures l = length l.tape - l.failures
