-- RULES, 'The inversion': the set-up record, and the refusals of a tray's parameters in their order. Assumes nothing.
use Rattle.std.specs.Prelude.{ℕ, ◌+◌, ◌*◌, Bool, not, ◌||◌, List, [], ◌∷◌, ◌≡◌, ltb, Float, Result, Ok, Err}
use Rattle.std.specs.Float.Ieee.{eq}
use Rattle.std.specs.Float.Ieee.Scale.{finite}
use Rattle.words.specs.Words.{ratio}
use Rattle.words.specs.declared.Refusal.{Refusal}
use Rattle.words.specs.Outcome.{Outcome, drawn, refused}
use Rattle.words.specs.Refusals.{Condition, ◌on◌, given}
use Rattle.words.specs.Paper.{number_of}
use Rattle.hypergeometric.specs.declared.Hypergeometric.{Hypergeometric}
use Rattle.hypergeometric.specs.declared.Reduced.{Reduced}
use Rattle.hypergeometric.specs.Reduction.{population_cap, reduction}
use Rattle.first_probability.specs.First.{first_probability}

-- the reduction's numbers with a first probability
abbrev pub with_first : Reduced → Float → Hypergeometric
with_first r p = record { n1 = r.n1; n2 = r.n2; k = r.k; offset = r.offset; sign = r.sign; first = p }

-- the set-up record
unfoldable pub set_up : ℕ → ℕ → ℕ → Hypergeometric
set_up N K n = let r = reduction N K n in with_first r (first_probability N r.n1 r.n2 r.k)

-- the mode is low enough for the inversion: below 10
unfoldable pub is_taken : ℕ → Hypergeometric → Bool
is_taken N h = ltb ((h.k + 1) * (h.n1 + 1)) (10 * (N + 2))

-- a first probability that nothing can be drawn from
unfoldable pub zero_or_not_finite : Float → Bool
zero_or_not_finite p = eq p (ratio 0 1) || not (finite p)

-- the parameters' refusals in their order: ProbabilityTooLarge, SampleSizeTooLarge, CapExceeded, ModeTooHigh, PopulationTooLarge
unfoldable pub tray_refusals : ℕ → ℕ → ℕ → List Condition
tray_refusals N K n =
    3 on ltb N K
    ∷ 4 on ltb N n
    ∷ 5 on ltb population_cap N
    ∷ 6 on not (is_taken N (set_up N K n))
    ∷ 2 on zero_or_not_finite (set_up N K n).first
    ∷ []

-- what the set-up comes to: a refusal, or the record, for no word
unfoldable pub settled : ℕ → ℕ → ℕ → Outcome Hypergeometric
settled N K n = given (tray_refusals N K n) (drawn (set_up N K n) 0)

-- what the set-up answers: its record, or why there is none
abbrev pub SetUp : Type 0
SetUp = Result Hypergeometric Refusal

-- that answer in the rules' terms; nothing is lost (`one_set_up`)
abbrev pub set_up_paper : SetUp → Outcome Hypergeometric
set_up_paper (Ok h) = drawn h 0
set_up_paper (Err x) = refused (number_of x)

-- The contract of the set-up: its answer a is, in the rules' terms, what the set-up comes to.
abbrev pub SetUpAllows : ℕ → ℕ → ℕ → SetUp → Type 0
SetUpAllows N K n a = set_up_paper a ≡ settled N K n

-- a record that the set-up gives
pub record FromSetUp (h : Hypergeometric) : Type 0 where
  pub N : ℕ
  pub K : ℕ
  pub n : ℕ
  pub gives : settled N K n ≡ drawn h 0
