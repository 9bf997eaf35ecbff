-- `poisson::sample_bits` meets its contract: the bits are in their range exactly where the float is. Assumes nothing.
use Rattle.std.proofs.Common.{sym, ◌∙◌, arith}
use lib.Ieee.{binary64, of_bits}
use Rattle.words.specs.Rule.{reading}
use Rattle.words.specs.Draw.{shorts, draw}
use Rattle.std.proofs.lemmas.Float.{not_nan_f64_bits}
use Rattle.words.proofs.Short.{ends_same}
use Rattle.poisson.specs.Poisson.{knuth_rule, poisson}
use Rattle.poisson.proofs.Range.{bits_inside, bits_below, bits_above}
use Rattle.poisson.proofs.sample_bits.Goals.{else-exp_lambda-ge-LOWEST-via-then-exp_lambda-ge-LOWEST+else-exp_lambda-le-HIGHEST, else-exp_lambda-ge-LOWEST-via-else-exp_lambda-ge-LOWEST}
use Rattle.poisson.proofs.sample_bits.Goals as goal

pub returns-then-too_long : goal.returns-then-too_long
unfolding draw poisson
returns-then-too_long c = simp (sym c.if-too_long.ensures)

pub float_from_bits-exp_lambda : goal.float_from_bits-exp_lambda
float_from_bits-exp_lambda c = not_nan_f64_bits _ (omega arith)

pub returns-then-exp_lambda-le-HIGHEST : goal.returns-then-exp_lambda-le-HIGHEST
unfolding draw poisson
returns-then-exp_lambda-le-HIGHEST c =
    c.knuth_method.ensures
    ∙ simp (sym c.if-too_long.ensures, bits_inside c.args.exp_lambda (omega arith) (omega arith))
    (sym (ends_same shorts (reading (knuth_rule (of_bits binary64 c.args.exp_lambda)) c.args.tape.now)))

pub returns : goal.returns
unfolding draw poisson
returns c =
    let within = sym c.if-too_long.ensures in
    elim c.else-exp_lambda-ge-LOWEST.branch [
      | else-exp_lambda-ge-LOWEST-via-then-exp_lambda-ge-LOWEST+else-exp_lambda-le-HIGHEST w ↦
          simp (within, bits_above c.args.exp_lambda (omega arith) (omega arith))
      | else-exp_lambda-ge-LOWEST-via-else-exp_lambda-ge-LOWEST w ↦ simp (within, bits_below c.args.exp_lambda (omega arith))
    ]
