-- RULES, 'What a count means': how many ways there are to choose. Assumes nothing.
use Rattle.std.specs.Prelude.{ℕ, zero, suc, ◌+◌, ◌-◌, ◌*◌}

-- C(n, k), the ways to choose k of n things, by Pascal's rule: the first of them is left out, or it is among the chosen
unfoldable pub choose : ℕ → ℕ → ℕ
choose zero zero = 1
choose zero (suc k) = 0
choose (suc n) zero = 1
choose (suc n) (suc k) = choose n (suc k) + choose n k

-- n!
unfoldable pub factorial : ℕ → ℕ
factorial zero = 1
factorial (suc n) = suc n * factorial n

-- the ways to take a sample, without replacement, in which just x things are marked, x at most the sample: so many of the marked, and the
-- rest of the unmarked
abbrev pub ways : ℕ → ℕ → ℕ → ℕ → ℕ
ways marked unmarked sample x = choose marked x * choose unmarked (sample - x)

-- the ways of 0, 1, .. up to x, added
unfoldable pub ways_up_to : ℕ → ℕ → ℕ → ℕ → ℕ
ways_up_to marked unmarked sample zero = ways marked unmarked sample zero
ways_up_to marked unmarked sample (suc x) = ways_up_to marked unmarked sample x + ways marked unmarked sample (suc x)
