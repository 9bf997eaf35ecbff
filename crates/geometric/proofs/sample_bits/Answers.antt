-- `geometric::sample_bits` meets its contract: up to the bits of 1 it draws, and above them only those of -0.0 are a probability's. Assumes nothing.
use Rattle.std.proofs.Common.{◌≡◌, sym, ap, ◌∙◌, false, [], ◌∷◌, ◌-◌, ◌^◌, arith}
use lib.Ieee.{binary64, of_bits}
use Rattle.words.specs.Words.{too_long}
use Rattle.words.specs.Refusals.{◌on◌, given}
use Rattle.std.proofs.lemmas.Float.{not_nan_f64_bits}
use Rattle.words.proofs.Tape.{within_limit}
use Rattle.words.specs.Outcome.{drawn}
use Rattle.words.specs.Draw.{shorts, draw}
use Rattle.words.proofs.Short.{ends_same}
use Rattle.geometric.specs.Geometric.{is_too_rare, geometric_reading, geometric}
use Rattle.geometric.proofs.GeometricLaws.{bits_probability, sign_probability, sign_never, sign_not_rare, bits_not_probability}
use Rattle.geometric.proofs.sample_bits.Goals as goal

pub returns-then-too_long : goal.returns-then-too_long
unfolding draw geometric
returns-then-too_long c = simp (sym c.if-too_long.ensures)

pub float_from_bits-p : goal.float_from_bits-p
float_from_bits-p c = not_nan_f64_bits c.args.p (omega arith)

pub sample_valid-requires : goal.sample_valid-requires
sample_valid-requires c = within_limit _ (sym c.if-too_long.ensures)

pub returns-then-p-le-ONE : goal.returns-then-p-le-ONE
unfolding draw geometric
returns-then-p-le-ONE c =
    let a = c.args in
    let p = of_bits binary64 a.p in
    let within : too_long a.tape.now ≡ false = sym c.if-too_long.ensures in
    c.sample_valid.ensures
    ∙ simp (within, bits_probability a.p (omega arith))
    (ap (λ o. given (9 on is_too_rare p ∷ []) o) (sym (ends_same shorts (geometric_reading p a.tape.now))))

pub returns-then-p-eq-MINUS_ZERO : goal.returns-then-p-eq-MINUS_ZERO
unfolding draw geometric
returns-then-p-eq-MINUS_ZERO c =
    let a = c.args in
    let z = c.if-p-eq-MINUS_ZERO.true in
    let within : too_long a.tape.now ≡ false = sym c.if-too_long.ensures in
    simp (within, sign_probability a.p z, sign_not_rare a.p z, sign_never a.p a.tape.now z) (sym (ends_same shorts (drawn (2 ^ 64 - 1) 0)))

pub returns : goal.returns
unfolding draw geometric
returns c =
    let within : too_long c.args.tape.now ≡ false = sym c.if-too_long.ensures in
    simp (within, bits_not_probability c.args.p (omega arith) (omega arith) (λ e. omega arith))
