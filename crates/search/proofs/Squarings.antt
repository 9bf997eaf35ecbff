-- Laws of the repeated squaring. Assumes nothing.
use mathlib.Core.Path.{◌≡◌, refl, sym, ap, ◌∙◌}
use mathlib.Core.Bool.{Bool, true, false, true≢false}
use mathlib.Core.Logic.{⊎_elim}
use Prim.Native.Nat.{ℕ, zero, suc, ◌+◌, ◌-◌, ◌^◌, ◌≤◌, ◌<◌}
use native.Mathlib.Nat.{eq-or-lt_of_le, le_of_suc-le-suc}
use lib.Pow.{pow_pos, pow_mono}
use native.Mathlib.Omega.{arith}
use native.Mathlib.Numerals.{add-one}
use lib.Ieee.{Float, binary64, mul, lt}
use Rattle.search.specs.Squares.{half, Squares, squaring, squares}

-- a turn after k squarings, of 31 at most; and the end
pub squaring_again : (k : ℕ) (x : Float) → k < 31 →
    squaring (31 - k) true k x ≡ squaring (31 - (k + 1)) (lt half (mul binary64 x x)) (k + 1) (mul binary64 x x)
unfolding squaring
squaring_again k x h =
    let e : 31 - k ≡ suc (31 - (k + 1)) = omega arith in
    rw (e, add-one)

pub squaring_reached : (n k : ℕ) (x : Float) → squaring n false k x ≡ record { k = k; pi = x }
unfolding squaring
squaring_reached zero k x = refl
squaring_reached (suc n) k x = refl

-- q squared n times
unfoldable pub squared : ℕ → Float → Float
squared zero q = q
squared (suc n) q = mul binary64 (squared n q) (squared n q)

-- the rules' words: k is the number of squarings, at least 1, until the result pi is no longer above 0.5; 31 are the most, and only 31 may
-- leave it above.
pub record Least (q : Float) (s : Squares) : Type 0 where
  pub once : 1 ≤ s.k
  pub most : s.k ≤ 31
  pub result : s.pi ≡ squared s.k q
  pub above : (j : ℕ) → 1 ≤ j → j < s.k → lt half (squared j q) ≡ true
  pub stops : lt half s.pi ≡ true → s.k ≡ 31

module _ (q : Float) where
  -- every result from the first to the one before the kth was above 0.5
  Above : ℕ → Type 0
  Above k = (j : ℕ) → 1 ≤ j → j < k → lt half (squared j q) ≡ true

  one_more : (k : ℕ) → Above k → lt half (squared k q) ≡ true → Above (suc k)
  unfolding Above
  one_more k above h j p l = ⊎_elim (λ e. ap (λ (i : ℕ). lt half (squared i q)) e ∙ h) (λ i. above j p i) (eq-or-lt_of_le (le_of_suc-le-suc l))

  least : (n : ℕ) (b : Bool) (k : ℕ) (x : Float) → n + k ≡ 31 → 1 ≤ k → x ≡ squared k q → lt half x ≡ b → Above k → Least q (squaring n b k x)
  unfolding squaring squared Above
  least zero false k x e p r t above = record { once = p; most = omega arith; result = r; above = above; stops = λ s. omega arith }
  least zero true k x e p r t above = record { once = p; most = omega arith; result = r; above = above; stops = λ s. omega arith }
  least (suc n) false k x e p r t above =
      record { once = p; most = omega arith; result = r; above = above; stops = λ s. absurd (true≢false (sym s ∙ t)) }
  least (suc n) true k x e p r t above =
      least n (lt half (mul binary64 x x)) (suc k) (mul binary64 x x) (omega arith) (omega arith) (ap (λ (y : Float). mul binary64 y y) r) refl
      (one_more k above (ap (lt half) (sym r) ∙ t))

  pub squares_least : Least q (squares q)
  unfolding squares squared Above
  squares_least = least 30 (lt half (mul binary64 q q)) 1 (mul binary64 q q) refl (omega arith) refl refl (λ j p l. absurd (omega arith))

  -- so 2^k is from 2 to 2^31
  pub span_bounds : (0 < 2 ^ (squares q).k) × (2 ^ (squares q).k ≤ 2 ^ 31)
  span_bounds = (pow_pos (squares q).k, pow_mono {j = 31} squares_least.most)
