-- RULES, 'Geometric': q^m, one multiplication after the other in a fixed order. Assumes nothing.
use Rattle.std.specs.Prelude.{ℕ, zero, suc, ◌/◌, ◌%◌, cond, eqb, Float}
use Rattle.std.specs.Float.{binary64}
use Rattle.std.specs.Float.Ieee.{mul}
use Rattle.words.specs.Words.{ratio}

-- where b is odd, r becomes r·a
abbrev pub odd_times : Float → Float → ℕ → Float
odd_times r a b = cond (eqb (b % 2) 1) (mul binary64 r a) r

-- What is left to do once b has been halved to h: where h is 0 the answer is r, else a becomes a·a and all is repeated with h for b.
-- The first number only bounds the repeats, and b of them are more than enough: `power_ends` and `power_again` speak of no bound.
unfoldable pub halved : ℕ → Float → Float → ℕ → Float
halved zero r a h = r
halved (suc n) r a zero = r
halved (suc n) r a (suc h) = halved n (odd_times r (mul binary64 a a) (suc h)) (mul binary64 a a) (suc h / 2)

-- the power from r, a and b on
unfoldable pub power_of : Float → Float → ℕ → Float
power_of r a b = halved b (odd_times r a b) a (b / 2)

-- q^m starts with r = 1, a = q and b = m
abbrev pub power : Float → ℕ → Float
power q m = power_of (ratio 1 1) q m
