-- `vectors::cases::fraction_bits` is safe: a fraction is a number, so it has bits. Assumes nothing.
use Rattle.std.proofs.Common.{arith, sym, subst}
use mathlib.Core.Bool.{not}
use lib.Dec.{T}
use lib.Ieee.{Float, is_nan}
use Rattle.words.proofs.Fractions.{fraction_number}
use Rattle.vectors.proofs.cases.fraction_bits.Goals as goal

pub float_to_bits-result : goal.float_to_bits-result
float_to_bits-result c = subst (λ (x : Float). T (not (is_nan x))) (sym c.fraction.ensures) (fraction_number c.args.word (omega arith))
