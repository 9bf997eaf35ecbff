-- `quarters::threshold` meets its contract: E(j) casts without loss, and dividing it by 2^52 rounds nothing away. Assumes nothing.
use Rattle.std.proofs.Common.{ℕ, ◌≡◌, ◌^◌, ◌≤◌, pos, to_z, w64, ap, ◌∙◌, arith}
use Rattle.std.proofs.lemmas.Int.{to_z_pos}
use lib.Dec.{le→leb}
use lib.Ieee.{of_bits, in_float}
use Rattle.words.specs.Words.{ratio}
use Rattle.words.proofs.Fractions.{cast_over}
use Rattle.quarters.specs.Quarters.{threshold_of}
use Rattle.quarters.proofs.Thresholds.{most}
use Rattle.quarters.proofs.threshold.Goals as goal
use Rattle.quarters.proofs.threshold.Goals.{After-numerator}

-- what was read is at most 2^53, and as it is with a sign
whole : (c : After-numerator) → c.numerator.result ≤ 2 ^ 53
whole c = omega (arith, c.numerator.ensures, most c.args.j c.requires.0 c.requires.1)

with_sign : (c : After-numerator) → to_z w64 c.numerator.result ≡ pos c.numerator.result
with_sign c = let h = whole c in to_z_pos w64 c.numerator.result (omega arith)

pub overflow_cast-result : goal.overflow_cast-result
overflow_cast-result c = let h = whole (goal.at.overflow_cast-result c).After-numerator in omega arith

pub int_to_float-result : goal.int_to_float-result
unfolding in_float
int_to_float-result c =
    let at = (goal.at.int_to_float-result c).After-numerator in
    rw (with_sign at) (le→leb c.numerator.result (2 ^ 53) (whole at))

pub returns : goal.returns
unfolding threshold_of of_bits
returns c =
    let at = (goal.at.returns c).After-numerator in
    rw (with_sign at) (cast_over 52 c.numerator.result (whole at) ∙ ap (λ (n : ℕ). ratio n (2 ^ 52)) c.numerator.ensures)
