-- The rules give every row of the table, by one computation. Assumes nothing.
use mathlib.Core.Path.{refl}
use lib.Count.{count_leading_zeros}
use lib.Ieee.{round, lt, le, eq, sub, mul, div, of_int, of_bits, to_bits}
use Rattle.words.specs.Words.{too_long, fraction_of}
use Rattle.words.specs.Rule.{read}
use Rattle.words.specs.Draw.{endings, draw}
use Rattle.poisson.specs.Poisson.{in_range, poisson}
use Rattle.search.specs.Power.{halved, power_of}
use Rattle.search.specs.Squares.{squaring, squares}
use Rattle.geometric.specs.Geometric.{is_probability, is_large, q_of, is_never, is_too_rare, geometric_reading, geometric}
use Rattle.standard_geometric.specs.Standard.{standard_geometric}
use Rattle.hypergeometric.specs.Reduction.{by_marked, by_sample, reduction}
use Rattle.first_probability.specs.First.{times_in, over_in, at_factor, factors, fraction_of_factorials, first_probability}
use Rattle.hypergeometric.specs.SetUp.{set_up, is_taken, zero_or_not_finite, tray_refusals}
use Rattle.hypergeometric.specs.Inversion.{next_p, walk, inverted}
use Rattle.hypergeometric.specs.Hypergeometric.{counted, hypergeometric}
use Rattle.draws.specs.Table.{Table}

pub rows : Table
unfolding draw endings poisson geometric standard_geometric hypergeometric round lt le eq sub mul div of_int of_bits to_bits count_leading_zeros too_long fraction_of read in_range halved power_of squaring squares is_probability is_large q_of is_never is_too_rare geometric_reading by_marked by_sample reduction times_in over_in at_factor factors fraction_of_factorials first_probability next_p walk inverted set_up is_taken zero_or_not_finite tray_refusals counted
rows = refl
