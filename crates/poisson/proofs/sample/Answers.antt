-- `poisson::sample` meets its contract: a float's bits stand for that float. Assumes nothing.
use Rattle.std.proofs.Common.{◌≡◌, ap, ◌∙◌, subst}
use Rattle.std.specs.Bool.{passes}
use lib.Ieee.{Float, binary64, of_bits}
use lib.Ieee.Bits.{of_bits-to_bits}
use Rattle.words.specs.Draw.{DrawAllows}
use Rattle.poisson.specs.Poisson.{poisson}
use Rattle.poisson.proofs.sample.Goals as goal

pub returns : goal.returns
returns c =
    let a = c.args in
    let same : of_bits binary64 c.f64_to_bits_with_nan.result ≡ a.exp_lambda =
    ap (of_bits binary64) c.f64_to_bits_with_nan.ensures ∙ of_bits-to_bits binary64 a.exp_lambda (passes _ c.well_formed.1.0.1) in
    subst (λ (x : Float). DrawAllows (poisson x) a.tape.now c.sample_bits.result) same c.sample_bits.ensures
