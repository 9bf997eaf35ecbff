-- `vectors::cases::draw_block` ends: each case has a length. Assumes nothing.
use Rattle.std.proofs.Common.{length}
use Rattle.vectors.proofs.cases.draw_block.Given as goal

abbrev pub decreases-loop-length : goal.decreases-loop-length
decreases-loop-length g l = length l.rest
