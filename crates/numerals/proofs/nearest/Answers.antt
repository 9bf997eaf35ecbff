-- `numerals::nearest` meets its contract: both casts are exact, and the division rounds once. Assumes nothing.
use Rattle.std.proofs.Common.{ap}
use mathlib.Core.Bool.{false}
use lib.Ieee.{binary64, to_bits}
use Rattle.numerals.specs.Decimal.{nearest_bits}
use Rattle.numerals.proofs.Rounding.{quotient, round_number}
use Rattle.numerals.proofs.nearest.Goals as goal

pub float_to_bits-result : goal.float_to_bits-result
float_to_bits-result c =
    rw (quotient c.args.a c.args.b c.requires.0 c.requires.1 c.requires.2) (round_number binary64 false c.args.a c.args.b)

pub returns : goal.returns
unfolding nearest_bits
returns c = ap (to_bits binary64) (quotient c.args.a c.args.b c.requires.0 c.requires.1 c.requires.2)
