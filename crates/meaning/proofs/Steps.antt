-- The ways from one count to the next, and those of the count 0, of any numbers. Assumes nothing.
use mathlib.Core.Path.{◌≡◌, sym, ap₂, ◌∙◌}
use Prim.Native.Nat.{ℕ, ◌+◌, ◌-◌, ◌*◌, ◌≤◌, ◌<◌}
use native.Mathlib.Nat.{mul-mul-mul_comm, sub-zero}
use native.Mathlib.Omega.{arith}
use Rattle.ways.specs.Choose.{choose, factorial, ways}
use Rattle.ways.proofs.Choosing.{choose_none, choose_all, step, choose_factorial}
use Rattle.hypergeometric.specs.Inversion.{up_by, down_by}

-- the unmarked of a sample of k, of which x or x + 1 are marked
unmarked_step : (n2 k x : ℕ) → x < k → k ≤ n2 → (k - x) * choose n2 (k - x) ≡ (n2 - k + 1 + x) * choose n2 (k - (x + 1))
unmarked_step n2 k x h l =
    let i : k - (x + 1) + 1 ≡ k - x = omega arith in
    let j : n2 - (k - (x + 1)) ≡ n2 - k + 1 + x = omega arith in
    rw (i, j) at (step n2 (k - (x + 1)))

-- from x to x + 1 the ways grow as the step's two whole numbers say
pub neighbouring : (n1 n2 k x : ℕ) → x < k → k ≤ n2 → up_by n1 k x * ways n1 n2 k x ≡ down_by n2 k x * ways n1 n2 k (x + 1)
neighbouring n1 n2 k x h l =
    mul-mul-mul_comm (n1 - x) (k - x) (choose n1 x) (choose n2 (k - x))
    ∙ ap₂ ◌*◌ (sym (step n1 x)) (unmarked_step n2 k x h l)
    ∙ mul-mul-mul_comm (x + 1) (choose n1 (x + 1)) (n2 - k + 1 + x) (choose n2 (k - (x + 1)))

-- with the count 0 the whole sample is unmarked
none_of_them : (n1 n2 k : ℕ) → ways n1 n2 k 0 ≡ choose n2 k
none_of_them n1 n2 k = rw (choose_none, sub-zero) (omega arith)

-- the ways of 0 among all samples are n2!·(N - k)! over N!·(n2 - k)!
pub beginning : (N n1 n2 k : ℕ) → n1 + n2 ≡ N → k ≤ n2
    → ways n1 n2 k 0 * (factorial N * factorial (n2 - k)) ≡ factorial n2 * factorial (N - k) * choose N k
beginning N n1 n2 k e l = rw (none_of_them n1 n2 k, ← (choose_factorial n2 k l), ← (choose_factorial N k (omega arith))) (omega arith)

-- where the sample is as many as the unmarked, they are n1!·k! over N!
pub beginning_else : (N n1 n2 k : ℕ) → n1 + n2 ≡ N → k ≡ n2
    → ways n1 n2 k 0 * (factorial N * factorial (k - n2)) ≡ factorial n1 * factorial k * choose N k
unfolding factorial
beginning_else N n1 n2 k e same =
    let none : k - n2 ≡ 0 = omega arith in
    let left : N - k ≡ n1 = omega arith in
    let f = rw left at (choose_factorial N k (omega arith)) in
    rw (none_of_them n1 n2 k, none, ← same, choose_all k) (omega arith)
