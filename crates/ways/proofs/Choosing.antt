-- Laws of the ways to choose k of n things, and of n!. Assumes nothing.
use mathlib.Core.Path.{◌≡◌, refl, sym, ap}
use Prim.Native.Nat.{ℕ, zero, suc, ◌+◌, ◌-◌, ◌*◌, ◌≤◌, ◌<◌}
use native.Mathlib.Nat.{zero-add, add-sub_of_le}
use native.Mathlib.Numerals.{add-one}
use native.Mathlib.Decide.{dec_le}
use native.Mathlib.Omega.{arith}
use Rattle.ways.specs.Choose.{choose, factorial}

-- there is one way to choose none of n things
pub choose_none : (n : ℕ) → choose n 0 ≡ 1
unfolding choose
choose_none zero = refl
choose_none (suc n) = refl

-- no way to choose more than there are
pub choose_past : (n k : ℕ) → n < k → choose n k ≡ 0
unfolding choose
choose_past zero zero h = absurd (omega arith)
choose_past zero (suc k) h = refl
choose_past (suc n) zero h = absurd (omega arith)
choose_past (suc n) (suc k) h = omega (arith, choose_past n (suc k) (omega arith), choose_past n k (omega arith))

-- and one way to choose them all
pub choose_all : (n : ℕ) → choose n n ≡ 1
unfolding choose
choose_all zero = refl
choose_all (suc n) = omega (arith, choose_past n (suc n) (omega arith), choose_all n)

-- ---- one more chosen

absorb_suc : (n k : ℕ) → suc k * choose (suc n) (suc k) ≡ suc n * choose n k
unfolding choose
absorb_suc zero zero = refl
absorb_suc zero (suc k) = omega arith
absorb_suc (suc n) zero = omega (arith, choose_none n, rw choose_none at (absorb_suc n zero))
absorb_suc (suc n) (suc k) = omega (arith, absorb_suc n (suc k), absorb_suc n k)

-- to choose k + 1 of n + 1 and name one of the chosen is to name one of all and choose k of the others
pub absorb : (n k : ℕ) → (k + 1) * choose (n + 1) (k + 1) ≡ (n + 1) * choose n k
absorb n k = simp add-one (absorb_suc n k)

-- to choose k + 1 and name one of them is to choose k and name one of the n - k others
pub step : (n k : ℕ) → (k + 1) * choose n (k + 1) ≡ (n - k) * choose n k
unfolding choose
step n k = elim (dec_le k n) [
  | yes h ↦ rw add-one (omega (arith, absorb_suc n k, ap (λ (m : ℕ). m * choose n k) (add-sub_of_le h)))
  | no h ↦ rw (choose_past n (k + 1) (omega arith), choose_past n k (omega arith)) (omega arith)
]

-- ---- those that are left

-- to choose a of a + b is to choose the b that are left
pub choose_rest : (n a b : ℕ) → a + b ≡ n → choose n a ≡ choose n b
unfolding choose
choose_rest zero zero zero h = refl
choose_rest zero zero (suc b) h = absurd (omega arith)
choose_rest zero (suc a) b h = absurd (omega arith)
choose_rest (suc n) zero zero h = absurd (omega arith)
choose_rest (suc n) zero (suc b) h = let e : b ≡ n = omega arith in rw e (sym (choose_all (suc n)))
choose_rest (suc n) (suc a) zero h = let e : a ≡ n = omega arith in rw e (choose_all (suc n))
choose_rest (suc n) (suc a) (suc b) h = omega (arith, choose_rest n (suc a) b (omega arith), choose_rest n a (suc b) (omega arith))

-- the same, with the difference
pub choose_symmetric : (n k : ℕ) → k ≤ n → choose n (n - k) ≡ choose n k
choose_symmetric n k h = choose_rest n (n - k) k (omega arith)

-- ---- n!

-- it is above 0
pub factorial_pos : (n : ℕ) → 0 < factorial n
unfolding factorial
factorial_pos zero = omega arith
factorial_pos (suc n) = omega (arith, factorial_pos n)

split_factorial : (k m : ℕ) → choose (k + m) k * (factorial k * factorial m) ≡ factorial (k + m)
unfolding factorial
split_factorial zero m = rw (zero-add, choose_none) (omega arith)
split_factorial (suc k) m =
    let e : suc k + m ≡ suc (k + m) = omega arith in
    let a = ap (λ (z : ℕ). z * (factorial k * factorial m)) (absorb_suc (k + m) k) in
    let i = ap (λ (z : ℕ). suc (k + m) * z) (split_factorial k m) in
    rw e (omega arith)

-- C(n, k) is n! over k!·(n - k)!
pub choose_factorial : (n k : ℕ) → k ≤ n → choose n k * (factorial k * factorial (n - k)) ≡ factorial n
choose_factorial n k h = rw (add-sub_of_le h) at (split_factorial k (n - k))
