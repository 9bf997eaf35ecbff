-- `walk`'s loop on any bytes: what is left to tell from here is the whole. Each entry takes its fixed fields or more, so the walk ends. Assumes nothing.
use Rattle.std.proofs.Common.{◌≡◌, ◌≤◌, ◌<◌, ◌-◌, ◌*◌, ◌^◌, length}
use Rattle.kinds.specs.Kinds.{fixed_length}
use Rattle.layout.specs.Inner.{walked}
use Rattle.layout.proofs.Walking.{rest}
use Rattle.layout.proofs.walk.Given as goal

abbrev pub invariant-loop-at : goal.invariant-loop-at
invariant-loop-at l =
    (l.standing.end ≤ length l.book) × (fixed_length * l.standing.entries ≤ l.standing.end) × (l.standing.place < 2 ^ 33)
    × (rest l.words l.book l.standing.end l.standing.entries l.standing.place ≡ walked l.words l.book)

abbrev pub decreases-loop-at : goal.decreases-loop-at
decreases-loop-at l = length l.book - l.standing.end
