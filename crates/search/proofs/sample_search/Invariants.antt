-- What the loop of `search::sample_search` keeps: reading on from here, with this many fractions below pi, gives what the whole reading gives.
-- Assumes nothing.
use Rattle.std.proofs.Common.{◌≡◌, ◌≤◌, ◌-◌, ◌^◌, length, drop}
use Rattle.words.specs.Rule.{more, read, reading}
use Rattle.search.specs.Search.{search_rule, first_run}
use Rattle.search.proofs.sample_search.Given as goal

abbrev pub invariant-loop-d : goal.invariant-loop-d
invariant-loop-d l =
    (l.d ≤ length l.tape)
    × (reading (search_rule l.squared.q (2 ^ l.squared.k) l.squared.pi) l.tape ≡ read (search_rule l.squared.q (2 ^ l.squared.k) l.squared.pi) (drop l.d l.tape) (more (first_run l.d)) l.d)

abbrev pub decreases-loop-d : goal.decreases-loop-d
decreases-loop-d l = length l.tape - l.d
