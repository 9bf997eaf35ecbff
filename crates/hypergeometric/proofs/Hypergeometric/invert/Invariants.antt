-- The loop's invariant: walking on from this x, u and p, with the turns that are left to the bound, gives what the whole walk gives. Assumes
-- nothing.
use Rattle.std.proofs.Common.{◌≡◌, ◌≤◌, ◌-◌}
use lib.Ieee.{lt}
use Rattle.hypergeometric.specs.Inversion.{next_p, walk, inverted}
use Rattle.hypergeometric.proofs.Hypergeometric.invert.Given as goal

abbrev pub invariant-loop-p : goal.invariant-loop-p
invariant-loop-p l =
    let s = l.self-inside in
    (l.x ≤ l.bound) × (inverted s.n1 s.n2 s.k s.first l.fraction ≡ walk (next_p s.n1 s.n2 s.k) (l.bound - l.x) (lt l.p l.u) l.x l.u l.p)

abbrev pub decreases-loop-p : goal.decreases-loop-p
decreases-loop-p l = l.bound - l.x
