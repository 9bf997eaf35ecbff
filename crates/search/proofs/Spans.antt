-- 2^k as the code has it, for k up to 31: a 1 that is shifted, and one less as a mask. Assumes nothing.
use mathlib.Core.Path.{◌≡◌, ◌∙◌}
use Prim.Native.Nat.{ℕ, ◌-◌, ◌*◌, ◌%◌, ◌^◌, ◌≤◌}
use native.Mathlib.Nat.{one-mul}
use native.Mathlib.Omega.{arith}
use lib.Pow.{shl_exact}
use lib.Bits.{bit_and, and_mask}

module _ (k : ℕ) (h : k ≤ 31) where
  -- no bit is shifted out
  pub shifted : (1 * 2 ^ k) % 2 ^ 64 ≡ 2 ^ k
  shifted = shl_exact {a = 1} 1 k 64 (omega arith) (omega arith) ∙ one-mul (2 ^ k)

  -- a word's lowest k bits are the word modulo 2^k
  pub masked : (w : ℕ) → bit_and w ((1 * 2 ^ k) % 2 ^ 64 - 1) ≡ w % 2 ^ k
  masked w = rw shifted (and_mask w k)
