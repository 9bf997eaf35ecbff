-- What the reduction keeps, for K ≤ N and n ≤ N: the ways of each count, and the number of samples. Assumes nothing.
use mathlib.Core.Path.{◌≡◌, refl}
use Prim.Native.Nat.{ℕ, ◌+◌, ◌-◌, ◌≤◌, min}
use native.Mathlib.Nat.{mul_comm, zero-add}
use native.Mathlib.Omega.{arith}
use Rattle.ways.specs.Choose.{choose, ways}
use Rattle.ways.proofs.Choosing.{choose_rest}
use Rattle.hypergeometric.specs.Reduction.{landing, reduction}
use Rattle.hypergeometric.proofs.Reducing.{by_case, landed, bound}

module _ (N K n : ℕ) (hK : K ≤ N) (hn : n ≤ N) where
  -- the count on which x lands has as many ways as x has among the reduced numbers
  pub ways_carried : (x : ℕ) → x ≤ bound N K n
      → ways K (N - K) n (landed N K n x) ≡ ways (reduction N K n).n1 (reduction N K n).n2 (reduction N K n).k x
  ways_carried x =
      by_case N K n (λ r. x ≤ min r.n1 r.k → ways K (N - K) n (landing r.sign r.offset x) ≡ ways r.n1 r.n2 r.k x)
      (λ a b h. let e : n - (n - x) ≡ x = omega arith in rw e (mul_comm _ _))
      (λ a b h. let c = n - (N - K) + x in rw (choose_rest K c (N - n - x) (omega arith), choose_rest (N - K) (n - c) x (omega arith)) (mul_comm _ _))
      (λ a b h. rw zero-add)
      (λ a b h. let c = 0 + K - x in rw (choose_rest K c x (omega arith), choose_rest (N - K) (n - c) (N - n - x) (omega arith)))

  -- there are as many samples of the reduced size
  pub samples_carried : choose N n ≡ choose N (reduction N K n).k
  samples_carried =
      let rest = choose_rest N n (N - n) (omega arith) in
      by_case N K n (λ r. choose N n ≡ choose N r.k) (λ a b. refl) (λ a b. rest) (λ a b. refl) (λ a b. rest)
