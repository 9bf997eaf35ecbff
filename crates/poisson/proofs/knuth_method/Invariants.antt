-- The loop's invariant: reading on from the next word, with this product and this many multiplications, gives what the whole reading gives.
use Rattle.std.proofs.Common.{◌≡◌, ◌+◌, ◌-◌, ◌<◌, length, drop}
use Rattle.words.specs.Rule.{read, reading}
use Rattle.poisson.specs.Poisson.{while_above, knuth_rule}
use Rattle.poisson.proofs.knuth_method.Given as goal

abbrev pub invariant-loop-p : goal.invariant-loop-p
invariant-loop-p l =
    (l.result < length l.tape)
    × (reading (knuth_rule l.exp_lambda) l.tape ≡ read (knuth_rule l.exp_lambda) (drop (l.result + 1) l.tape) (while_above l.exp_lambda l.p l.result) (l.result + 1))

abbrev pub decreases-loop-p : goal.decreases-loop-p
decreases-loop-p l = length l.tape - l.result
