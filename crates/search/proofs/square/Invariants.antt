-- What the loop of `search::square` keeps: squaring on from here comes to what all the squarings come to, and ends with the 31st at the latest.
-- Assumes nothing.
use Rattle.std.proofs.Common.{◌≡◌, ◌≤◌, ◌-◌}
use Rattle.std.specs.Float.Ieee.{lt}
use Rattle.search.specs.Squares.{half, squaring, squares}
use Rattle.search.proofs.Edge.{Within}
use Rattle.search.proofs.square.Given as goal

abbrev pub invariant-loop-pi : goal.invariant-loop-pi
invariant-loop-pi l = (l.k ≤ 31) × (squares l.q ≡ squaring (31 - l.k) (lt half l.pi) l.k l.pi) × Within (31 - l.k) l.pi

abbrev pub decreases-loop-pi : goal.decreases-loop-pi
decreases-loop-pi l = 31 - l.k
