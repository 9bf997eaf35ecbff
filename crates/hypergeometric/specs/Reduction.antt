-- RULES, 'The reduction': of N things, K of them marked, and a sample of n, for K ≤ N and n ≤ N; the cap of 'The inversion', and the
-- support ('Demands', 2). Assumes nothing.
use Rattle.std.specs.Prelude.{ℕ, ◌+◌, ◌-◌, ◌/◌, ◌≤◌, min, cond, leb, ltb}
use Rattle.hypergeometric.specs.declared.Sign.{Sign}
use Rattle.hypergeometric.specs.declared.Sign.TheVariants.{Plus, Minus}
use Rattle.hypergeometric.specs.declared.Reduced.{Reduced}

-- the most things that a population may have
abbrev pub population_cap : ℕ
population_cap = 1048576

-- offset + sign·x
abbrev pub landing : Sign → ℕ → ℕ → ℕ
landing Plus offset x = offset + x
landing Minus offset x = offset - x

abbrev pub flip : Sign → Sign
flip Plus = Minus
flip Minus = Plus

-- Of marked and unmarked, n1 is the fewer and n2 the others. Where the fewer are the unmarked, the marked of a sample are n less those:
-- offset n, sign -1. Else they are counted as they are. The sample, k, is n for now.
unfoldable pub by_marked : ℕ → ℕ → ℕ → Reduced
by_marked N K n =
    cond (ltb (N - K) K)
    (record { n1 = N - K; n2 = K; k = n; offset = n; sign = Minus })
    (record { n1 = K; n2 = N - K; k = n; offset = 0; sign = Plus })

-- A sample of more than half, rounded down, is exchanged with what it leaves, N-n things: they have n1 less what the sample has of it, so
-- the offset moves by n1 in the sign's direction, and the sign is the other.
unfoldable pub by_sample : ℕ → ℕ → Reduced → Reduced
by_sample N n r =
    cond (leb n (N / 2)) r
    (record { n1 = r.n1; n2 = r.n2; k = N - n; offset = landing r.sign r.offset r.n1; sign = flip r.sign })

unfoldable pub reduction : ℕ → ℕ → ℕ → Reduced
reduction N K n = by_sample N n (by_marked N K n)

-- The support: from max(0, n+K-N) to min(n, K). A difference of natural numbers is 0 where it would be below.
abbrev pub least : ℕ → ℕ → ℕ → ℕ
least N K n = n + K - N

abbrev pub most : ℕ → ℕ → ℕ
most K n = min n K

abbrev pub InSupport : ℕ → ℕ → ℕ → ℕ → Type 0
InSupport N K n c = (least N K n ≤ c) × (c ≤ most K n)
