-- Laws of the float nearest to a / b, from two whole numbers that are floats exactly. Assumes nothing.
use mathlib.Core.Path.{◌≡◌}
use mathlib.Core.Bool.{Bool, true, false, cond, not}
use Prim.Native.Nat.{ℕ, zero, suc, ◌+◌, ◌*◌, ◌^◌, ◌≤◌, ◌<◌}
use native.Mathlib.Nat.{mul-pos}
use native.Mathlib.Omega.{arith}
use lib.Dec.{T, eqb, ltb}
use lib.IntN.{pos}
use lib.Ieee.{Float, nan, inf, fin, Format, binary64, prec, emax, low, up, down, odd, units, div, round, of_int, is_nan}
use lib.Ieee.Exact.{HasValue}
use lib.Ieee.Back.{round_whole}
use lib.Ieee.Fits.{down_pos, round_is}
use lib.Ieee.Positive.{first_pos}
use lib.Ieee.Scale.{round_same}
use borrow.Author.Tests.{ne_eqb}

-- a number of the smallest values is a number, or too large and infinite
units_number : (f : Format) (s : Bool) (q k : ℕ) → T (not (is_nan (units f s q k)))
unfolding units odd is_nan
units_number f s q k = number (ltb (q * 2 ^ k) (2 ^ (low f + suc (emax f)))) q
  where
    number : (t : Bool) (q : ℕ) → T (not (is_nan (cond t (odd (suc (prec f)) s q k (low f)) (inf s))))
    number true zero = tt
    number true (suc q) = tt
    number false q = tt

-- what is rounded is a number, and has bits
pub round_number : (f : Format) (s : Bool) (a b : ℕ) → T (not (is_nan (round f s a b)))
round_number f s a b = rw round_is (units_number f s _ _)

-- two floats whose values are whole numbers: their quotient is rounded once
divided : (x y : Float) (a b : ℕ) → HasValue x false a 1 → HasValue y false b 1 → 0 < b → div binary64 x y ≡ round binary64 false a b
unfolding div
divided nan y a b v w h = absurd v
divided (inf s) y a b v w h = absurd v
divided (fin s m e) nan a b v w h = absurd w
divided (fin s m e) (inf t) a b v w h = absurd w
divided (fin s m e) (fin t n d) a b v w h =
    let x : m * up e ≡ a * down e = omega (arith, v.1) in
    let y : n * up d ≡ b * down d = omega (arith, w.1) in
    let p : 0 < n * up d = omega (arith, mul-pos h (down_pos d)) in
    let nonzero : eqb n 0 ≡ false = ne_eqb n 0 (λ z. omega (arith, first_pos n (up d) p)) in
    let same : m * up e * down d * b ≡ a * (n * up d * down e) = rw (x, y) (omega arith) in
    rw (nonzero, v.0, w.0) (round_same binary64 false (m * up e * down d) (n * up d * down e) a b (mul-pos p (down_pos e)) h same)

-- both casts are exact
pub quotient : (a b : ℕ) → a ≤ 2 ^ 53 → 0 < b → b ≤ 2 ^ 53 → div binary64 (of_int binary64 (pos a)) (of_int binary64 (pos b)) ≡ round binary64 false a b
unfolding of_int
quotient a b h p k = divided (round binary64 false a 1) (round binary64 false b 1) a b (round_whole binary64 false a h) (round_whole binary64 false b k) p
