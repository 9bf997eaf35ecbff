-- `bench_kept::draw_round` is safe: the place stays within the tape. Assumes nothing.
use Rattle.std.proofs.Common.{◌≤◌, length}
use Rattle.bench_kept.proofs.draw_round.Given as goal

abbrev pub invariant-loop : goal.invariant-loop
invariant-loop l = l.at ≤ length l.tape
