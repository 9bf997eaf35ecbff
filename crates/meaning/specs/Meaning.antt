-- RULES, 'What a count means': a count is the marked among n things, drawn without replacement from N of which K are marked. Every sample of n
-- is as likely as any other, so that a count is as likely as it has ways. Assumes nothing.
use Rattle.std.specs.Prelude.{ℕ, ◌+◌, ◌-◌, ◌*◌, ◌≤◌, ◌<◌, min, ◌≡◌}
use Rattle.ways.specs.Choose.{choose, factorial, ways, ways_up_to}
use Rattle.hypergeometric.specs.declared.Hypergeometric.{Hypergeometric}
use Rattle.hypergeometric.specs.Reduction.{landing}
use Rattle.hypergeometric.specs.SetUp.{set_up}
use Rattle.hypergeometric.specs.Inversion.{up_by, down_by}

-- of the record h, whose numbers are those that the reduction leaves of (N, K, n)
pub record Means (N K n : ℕ) (h : Hypergeometric) : Type 0 where
  -- the count on which x lands has as many ways as x has among the reduced numbers: the factor between them is 1
  pub carried : (x : ℕ) → x ≤ min h.n1 h.k → ways K (N - K) n (landing h.sign h.offset x) ≡ ways h.n1 h.n2 h.k x
  -- and they are ways of as many in all
  pub samples : choose N n ≡ choose N h.k
  pub all : ways_up_to h.n1 h.n2 h.k (min h.n1 h.k) ≡ choose N h.k
  -- The inversion's steps: from x to x + 1 the ways grow as the step's two whole numbers say.
  pub neighbours : (x : ℕ) → x < h.n1 → x < h.k
      → up_by h.n1 h.k x * ways h.n1 h.n2 h.k x ≡ down_by h.n2 h.k x * ways h.n1 h.n2 h.k (x + 1)
  -- Where they begin: the ways of x = 0 among all samples are as the first probability's factorials, two above the line and two below.
  pub first : h.k < h.n2
      → ways h.n1 h.n2 h.k 0 * (factorial N * factorial (h.n2 - h.k)) ≡ factorial h.n2 * factorial (N - h.k) * choose N h.k
  pub first_else : h.n2 ≤ h.k
      → ways h.n1 h.n2 h.k 0 * (factorial N * factorial (h.k - h.n2)) ≡ factorial h.n1 * factorial h.k * choose N h.k

-- the statement: of every tray that the rules reduce
abbrev pub Meant : Type 0
Meant = (N K n : ℕ) → K ≤ N → n ≤ N → Means N K n (set_up N K n)
