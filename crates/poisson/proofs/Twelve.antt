-- The threshold e^-lambda of every lambda between 0 and 12 is in the range (RULES, 'Poisson'). Proved of fractions: e is what the sums of 1 / i!
-- grow to, so e^-12 is what the fractions (1 / sum)^12 fall to, and every fraction from any of these up to 1, rounded, is in the range
-- (`twelve_inside`). Not proved, since no real number has a definition here: that a fraction above e^-12 is above one of these, that e^-lambda
-- lies between e^-12 and 1, and that a real number between two fractions is rounded to a float between theirs. Assumes nothing.
use mathlib.Core.Path.{◌≡◌, ap, ◌∙◌}
use mathlib.Core.Bool.{true}
use Prim.Native.Nat.{ℕ, zero, suc, ◌+◌, ◌*◌, ◌^◌, ◌≤◌, ◌<◌}
use native.Mathlib.Nat.{mul_left_comm, mul-suc, mul-le-mul_left, mul-le-mul_right, mul_assoc, mul-pos, le_of_lt, le_trans, le_of_mul-le-mul_left, pow-le-pow_left, one-le-pow}
use native.Mathlib.Omega.{arith}
use lib.Dec.{lit<, lit≤}
use Rattle.std.proofs.lemmas.Nat.{mul-pow}
use Rattle.words.specs.Words.{ratio}
use Rattle.poisson.specs.Poisson.{in_range}
use Rattle.poisson.proofs.Range.{ratio_inside}

unfoldable pub factorial : ℕ → ℕ
factorial zero = 1
factorial (suc n) = suc n * factorial n

-- n! times the sum of 1 / i! for i from 0 to n
unfoldable pub sum_over : ℕ → ℕ
sum_over zero = 1
sum_over (suc n) = suc n * sum_over n + 1

-- with one nth part more, the sum no longer grows
step : (k s f : ℕ) → 1 ≤ k → 4 * (s + 1) ≤ 11 * f → 4 * (suc k * s + 1 + 1) ≤ 11 * (suc k * f)
step k s f p h =
    let a = suc k in
    let l : a * (4 * suc s) ≡ 4 * (a * s + a) = mul_left_comm a 4 (suc s) ∙ ap (λ (x : ℕ). 4 * x) (mul-suc a s) in
    let r : a * (11 * f) ≡ 11 * (a * f) = mul_left_comm a 11 f in
    let m : a * (4 * suc s) ≤ a * (11 * f) = mul-le-mul_left a (omega arith) in
    omega arith

from_four : (n : ℕ) → 4 * (sum_over (suc (suc (suc (suc n)))) + 1) ≤ 11 * factorial (suc (suc (suc (suc n))))
unfolding factorial sum_over
from_four zero = lit≤ tt
from_four (suc n) =
    let k = suc (suc (suc (suc n))) in
    step k (sum_over k) (factorial k) (omega arith) (from_four n)

-- each sum of 1 / i! is below 11/4
pub e_below : (n : ℕ) → 4 * sum_over n < 11 * factorial n
unfolding factorial sum_over
e_below zero = lit< tt
e_below (suc zero) = lit< tt
e_below (suc (suc zero)) = lit< tt
e_below (suc (suc (suc zero))) = lit< tt
e_below (suc (suc (suc (suc n)))) = let h = from_four n in omega arith

-- (11/4)^12 is below 2^18: so a fraction from (4/11)^12 to 1, rounded, is in the range
pub four_elevenths_inside : (a b : ℕ) → 0 < b → 4 ^ 12 * b ≤ 11 ^ 12 * a → a ≤ b → in_range (ratio a b) ≡ true
four_elevenths_inside a b pos low high = ratio_inside a b pos (omega arith) high

factorial_pos : (n : ℕ) → 0 < factorial n
unfolding factorial
factorial_pos zero = lit< tt
factorial_pos (suc n) = mul-pos (omega arith) (factorial_pos n)

-- every fraction a / b from (1 / sum)^12 to 1, of any of the sums, is in the range
pub twelve_inside : (n a b : ℕ) → 0 < b → factorial n ^ 12 * b ≤ sum_over n ^ 12 * a → a ≤ b → in_range (ratio a b) ≡ true
twelve_inside n a b pos low high =
    let f : ℕ = factorial n ^ 12 in
    let s : ℕ = sum_over n ^ 12 in
    let grown : 4 ^ 12 * s ≤ 11 ^ 12 * f =
    rw (← mul-pow 4 (sum_over n) 12, ← mul-pow 11 (factorial n) 12) (pow-le-pow_left (le_of_lt (e_below n)) 12) in
    let left : 4 ^ 12 * (f * b) ≤ 4 ^ 12 * (s * a) = mul-le-mul_left (4 ^ 12) low in
    let right : 4 ^ 12 * s * a ≤ 11 ^ 12 * f * a = mul-le-mul_right a grown in
    let both : f * (4 ^ 12 * b) ≤ f * (11 ^ 12 * a) =
    rw (mul_left_comm f (4 ^ 12) b, mul_left_comm f (11 ^ 12) a, ← mul_assoc (11 ^ 12) f a) (le_trans left (rw (← mul_assoc (4 ^ 12) s a) right)) in
    four_elevenths_inside a b pos (le_of_mul-le-mul_left both (one-le-pow 12 (factorial n) (factorial_pos n))) high
