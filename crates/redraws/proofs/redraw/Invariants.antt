-- The loop's invariant: the lowest serial that differs is the one among the entries left, and each of them has its place on the tape. Assumes nothing.
use Rattle.std.proofs.Common.{◌≡◌, length}
use Rattle.opening.specs.Calls.{booked}
use Rattle.redraws.specs.Redraw.{lowest}
use Rattle.redraws.proofs.Redrawing.{OnTape}
use Rattle.redraws.proofs.redraw.Given as goal

abbrev pub invariant-loop-entry : goal.invariant-loop-entry
invariant-loop-entry l =
    OnTape (length l.tape) l.entry-iterator × (lowest l.tape l.entry-iterator ≡ lowest l.tape (booked l.tape l.book))
