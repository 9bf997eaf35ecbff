-- `words::fraction` meets its contract: a whole number below 2^53 casts without loss, and dividing it by 2^53 rounds once. Assumes nothing.
use Rattle.std.proofs.Common.{◌/◌, arith}
use lib.Ieee.{of_bits}
use Rattle.words.specs.Words.{fraction_of}
use Rattle.words.proofs.Fractions.{cast_over}
use Rattle.words.proofs.fraction.Goals as goal

pub returns : goal.returns
unfolding fraction_of of_bits
returns c = cast_over 53 (c.args.w / 2048) (omega arith)
