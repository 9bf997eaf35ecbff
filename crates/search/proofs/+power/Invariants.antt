-- b, which is halved, measures the calls of `search::power` that are left. Assumes nothing.
use Rattle.search.proofs.+power.Given as goal

abbrev pub decreases-power : goal.decreases-power
decreases-power l = l.b
