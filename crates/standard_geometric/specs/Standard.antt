-- RULES, 'Standard geometric'. Assumes nothing.
use Rattle.std.specs.Prelude.{ℕ, ◌+◌, cond, [], eqb}
use Rattle.std.specs.Int.Count.{count_leading_zeros}
use Rattle.words.specs.Rule.{Step, done, more, Rule, reading}
use Rattle.words.specs.Draw.{Drawing}

-- the leading zeros of each word read are added to n; the first word that isn't 0 is the last
abbrev pub add_zeros : ℕ → ℕ → Step ℕ ℕ
add_zeros n w = cond (eqb w 0) (more (n + count_leading_zeros 64 w)) (done (n + count_leading_zeros 64 w))

abbrev pub standard_rule : Rule ℕ ℕ
standard_rule = record { start = more 0; step = add_zeros; short = λ s. 10 }

-- the draw; it has no parameters
unfoldable pub standard_geometric : Drawing ℕ
standard_geometric = record { refusals = []; reads = reading standard_rule }
