-- What the loop of `search::sample_remainder` keeps: the search from here gives what the search from `at` gives. Assumes nothing.
use Rattle.std.proofs.Common.{◌≡◌, ◌-◌, ◌^◌, length, drop}
use Rattle.words.specs.Rule.{more, read}
use Rattle.search.specs.Search.{search_rule, remainder_word}
use Rattle.search.proofs.sample_remainder.Given as goal

abbrev pub invariant-loop-w : goal.invariant-loop-w
invariant-loop-w l =
    read (search_rule l.squared.q (2 ^ l.squared.k) l.squared.pi) (drop l.at l.tape) (more (remainder_word l.d)) l.at
    ≡ read (search_rule l.squared.q (2 ^ l.squared.k) l.squared.pi) (drop l.i l.tape) (more (remainder_word l.d)) l.i

abbrev pub decreases-loop-w : goal.decreases-loop-w
decreases-loop-w l = length l.tape - l.i
