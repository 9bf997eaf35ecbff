-- `vectors::single::float_of` is safe: bits of which a float is made are no NaN's. Assumes nothing.
use Rattle.std.proofs.Common.{arith}
use Rattle.words.proofs.Patterns.{float_of_bits}
use Rattle.vectors.proofs.single.float_of.Goals as goal

pub float_from_bits-result : goal.float_from_bits-result
float_from_bits-result c = float_of_bits _ (omega arith)
