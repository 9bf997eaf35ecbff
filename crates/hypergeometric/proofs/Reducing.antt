-- Laws of the reduction (RULES, 'The reduction'), for K ≤ N and n ≤ N: the sizes of its numbers, and that offset + sign·x carries 0..min(n1, k)
-- one-to-one onto the support. Assumes nothing.
use mathlib.Core.Path.{◌≡◌, refl}
use mathlib.Core.Bool.{Bool, true, false, cond}
use Prim.Native.Nat.{ℕ, ◌+◌, ◌-◌, ◌/◌, ◌^◌, ◌≤◌, ◌<◌, min}
use native.Mathlib.Omega.{arith}
use lib.Dec.{leb, ltb}
use borrow.Author.Tests.{ltb-true, ltb-false, leb-true, leb-false}
use Rattle.hypergeometric.specs.declared.Sign.TheVariants.{Plus, Minus}
use Rattle.hypergeometric.specs.declared.Reduced.{Reduced}
use Rattle.hypergeometric.specs.Reduction.{landing, flip, by_marked, by_sample, reduction, least, most}
use Rattle.hypergeometric.specs.Inner.{Lands}

-- f carries 0..top one-to-one onto low..high: into it, no two to one place, and every place is hit
pub record OneToOneOnto (f : ℕ → ℕ) (top low high : ℕ) : Type 0 where
  pub into : (x : ℕ) → x ≤ top → (low ≤ f x) × (f x ≤ high)
  pub injective : (x y : ℕ) → x ≤ top → y ≤ top → f x ≡ f y → x ≡ y
  pub onto : (c : ℕ) → low ≤ c → c ≤ high → (x : ℕ) × (x ≤ top) × (f x ≡ c)

-- the place of c from o on, for u = N-K, o = n-u and m = N-n
from : (N K n u o m c : ℕ) → u + K ≡ N → o + u ≡ n → n + m ≡ N → n + K - N ≤ c → c ≤ min n K → (c - o ≤ min u m) × (o + (c - o) ≡ c)
from N K n u o m c a b d l h = (omega arith, omega arith)

module _ (N K n : ℕ) where
  -- what the two tests choose between
  abbrev marked : Bool → Reduced
  marked true = record { n1 = N - K; n2 = K; k = n; offset = n; sign = Minus }
  marked false = record { n1 = K; n2 = N - K; k = n; offset = 0; sign = Plus }

  abbrev left : Reduced → Reduced
  left r = record { n1 = r.n1; n2 = r.n2; k = N - n; offset = landing r.sign r.offset r.n1; sign = flip r.sign }

  -- what holds in each of the four cases, given what its tests say, holds of the reduction
  pub by_case : (P : Reduced → Type 0)
      → (N - K < K → n ≤ N / 2 → P (marked true)) → (N - K < K → N / 2 < n → P (left (marked true)))
      → (K ≤ N - K → n ≤ N / 2 → P (marked false)) → (K ≤ N - K → N / 2 < n → P (left (marked false))) → P (reduction N K n)
  unfolding reduction by_sample by_marked
  by_case P a b c d = go (ltb (N - K) K) refl (leb n (N / 2)) refl
    where
      go : (s : Bool) → ltb (N - K) K ≡ s → (f : Bool) → leb n (N / 2) ≡ f
          → P (cond f (cond s (marked true) (marked false)) (left (cond s (marked true) (marked false))))
      go true e true g = a (ltb-true (N - K) K e) (leb-true n (N / 2) g)
      go true e false g = b (ltb-true (N - K) K e) (leb-false n (N / 2) g)
      go false e true g = c (ltb-false (N - K) K e) (leb-true n (N / 2) g)
      go false e false g = d (ltb-false (N - K) K e) (leb-false n (N / 2) g)

  -- the landing of the reduction
  abbrev pub landed : ℕ → ℕ
  landed x = landing (reduction N K n).sign (reduction N K n).offset x

  -- the bound of the inversion
  abbrev pub bound : ℕ
  bound = min (reduction N K n).n1 (reduction N K n).k

  -- K > N-K and more than half sampled: n1 can be taken off the offset; K ≤ N-K: it can be added
  pub marked_lands : K < 2 ^ 64 → N / 2 < n → Lands (by_marked N K n).sign (by_marked N K n).offset (by_marked N K n).n1
  unfolding by_marked
  marked_lands h m = go (ltb (N - K) K) refl
    where
      go : (s : Bool) → ltb (N - K) K ≡ s → (let r = cond s (marked true) (marked false) in Lands r.sign r.offset r.n1)
      go true e = let l = ltb-true (N - K) K e in omega arith
      go false e = omega arith

  module _ (hK : K ≤ N) (hn : n ≤ N) where
    pub n1+n2 : (reduction N K n).n1 + (reduction N K n).n2 ≡ N
    n1+n2 = by_case (λ r. r.n1 + r.n2 ≡ N) (λ a b. omega arith) (λ a b. omega arith) (λ a b. omega arith) (λ a b. omega arith)

    pub n1≤n2 : (reduction N K n).n1 ≤ (reduction N K n).n2
    n1≤n2 = by_case (λ r. r.n1 ≤ r.n2) (λ a b. omega arith) (λ a b. omega arith) (λ a b. omega arith) (λ a b. omega arith)

    pub k≤n2 : (reduction N K n).k ≤ (reduction N K n).n2
    k≤n2 = by_case (λ r. r.k ≤ r.n2) (λ a b. omega arith) (λ a b. omega arith) (λ a b. omega arith) (λ a b. omega arith)

    pub k≤half : (reduction N K n).k ≤ N / 2
    k≤half = by_case (λ r. r.k ≤ N / 2) (λ a b. omega arith) (λ a b. omega arith) (λ a b. omega arith) (λ a b. omega arith)

    pub carries : OneToOneOnto landed bound (least N K n) (most K n)
    carries =
        by_case (λ r. OneToOneOnto (landing r.sign r.offset) (min r.n1 r.k) (least N K n) (most K n))
        (λ a b. record {
          into = λ x h. (omega arith, omega arith);
          injective = λ x y h i e. omega arith;
          onto = λ c l h. (n - c, omega arith, omega arith);
        })
        (λ a b. record {
          into = λ x h. (omega arith, omega arith);
          injective = λ x y h i e. omega arith;
          onto = λ c l h. let f = from N K n (N - K) (n - (N - K)) (N - n) c (omega arith) (omega arith) (omega arith) l h in (c - (n - (N - K)), f.0, f.1);
        })
        (λ a b. record {
          into = λ x h. (omega arith, omega arith);
          injective = λ x y h i e. omega arith;
          onto = λ c l h. (c, omega arith, omega arith);
        })
        (λ a b. record {
          into = λ x h. (omega arith, omega arith);
          injective = λ x y h i e. omega arith;
          onto = λ c l h. (K - c, omega arith, omega arith);
        })

    -- no sum or difference of the landing leaves its range
    pub lands : N < 2 ^ 64 → (x : ℕ) → x ≤ bound → Lands (reduction N K n).sign (reduction N K n).offset x
    lands s x h = by_case (λ r. x ≤ min r.n1 r.k → Lands r.sign r.offset x)
        (λ a b h. omega arith) (λ a b h. omega arith) (λ a b h. omega arith) (λ a b h. omega arith) h
