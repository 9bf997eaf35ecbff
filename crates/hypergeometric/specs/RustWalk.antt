-- What the Rust's inversion does where the rules end it at min(n1, k) (RULES, 'The inversion'; DIFFERENCES, entry one): it goes on
-- to k, in numbers that may be below 0, and casts what it lands on to 64 bits. No contract speaks of it; `entry_one` compares. Assumes nothing.
use Rattle.std.specs.Prelude.{ℕ, suc, ◌-◌, ◌^◌, ◌≤◌, ◌<◌, min, ◌≡◌, ℤ, pos, negsuc, ◌+ℤ◌, ◌-ℤ◌, ◌*ℤ◌, Float}
use Rattle.std.specs.Float.{binary64}
use Rattle.std.specs.Float.Ieee.{of_int, mul, div, lt}
use Rattle.words.specs.Words.{fraction_of}
use Rattle.hypergeometric.specs.declared.Sign.{Sign}
use Rattle.hypergeometric.specs.declared.Sign.TheVariants.{Plus, Minus}
use Rattle.hypergeometric.specs.declared.Hypergeometric.{Hypergeometric}
use Rattle.hypergeometric.specs.Reduction.{InSupport}
use Rattle.hypergeometric.specs.Inversion.{walk, inverted}
use Rattle.hypergeometric.specs.Hypergeometric.{counted}

-- the two whole numbers of a step; past n1 the first is 0, then below 0
abbrev pub rust_up : ℕ → ℕ → ℕ → ℤ
rust_up n1 k x = (pos n1 -ℤ pos x) *ℤ (pos k -ℤ pos x)

abbrev pub rust_down : ℕ → ℕ → ℕ → ℤ
rust_down n2 k x = (pos x +ℤ pos 1) *ℤ (pos n2 -ℤ pos k +ℤ pos 1 +ℤ pos x)

unfoldable pub rust_next_p : ℕ → ℕ → ℕ → ℕ → Float → Float
rust_next_p n1 n2 k x p = div binary64 (mul binary64 p (of_int binary64 (rust_up n1 k x))) (of_int binary64 (rust_down n2 k x))

-- its walk by this step, with the bound k: the x that it ends at
unfoldable pub rust_walk : ℕ → ℕ → ℕ → Float → Float → ℕ
rust_walk n1 n2 k p u = walk (rust_next_p n1 n2 k) k (lt p u) 0 u p

-- by a record and a word
unfoldable pub rust_x : Hypergeometric → ℕ → ℕ
rust_x h w = rust_walk h.n1 h.n2 h.k h.first (fraction_of w)

-- offset + sign·x, which may be below 0
abbrev pub rust_landing : Sign → ℕ → ℕ → ℤ
rust_landing Plus offset x = pos offset +ℤ pos x
rust_landing Minus offset x = pos offset -ℤ pos x

-- a number cast to 64 bits: -1 is 2^64 - 1
abbrev pub cast : ℤ → ℕ
cast (pos n) = n
cast (negsuc n) = 2 ^ 64 - suc n

-- the count that it answers
unfoldable pub rust_counted : Hypergeometric → ℕ → ℕ
rust_counted h w = cast (rust_landing h.sign h.offset (rust_x h w))

-- of a tray, its record h and a word w
pub record EntryOne (N K n : ℕ) (h : Hypergeometric) (w : ℕ) : Type 0 where
  -- up to min(n1, k) the count is the same
  pub same : rust_x h w ≤ min h.n1 h.k → rust_counted h w ≡ counted h w
  -- past it the Rust's count is outside the support, one that wrapped below 0 too; and here x is at the bound
  pub past : min h.n1 h.k < rust_x h w → InSupport N K n (rust_counted h w) → ⊥
  pub at_bound : min h.n1 h.k < rust_x h w → inverted h.n1 h.n2 h.k h.first (fraction_of w) ≡ min h.n1 h.k
