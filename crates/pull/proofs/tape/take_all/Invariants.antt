-- `pull::tape::take_all` meets its contract, and ends: each part but the last adds words, within the tape. Assumes nothing.
use Rattle.std.proofs.Common.{length, ◌-◌, ◌≤◌}
use Rattle.pull.proofs.tape.take_all.Given as goal

abbrev pub invariant-loop-n : goal.invariant-loop-n
invariant-loop-n g l = l.words ≤ length l.tape

abbrev pub decreases-loop-n : goal.decreases-loop-n
decreases-loop-n g l = length l.initial.tape - l.words
