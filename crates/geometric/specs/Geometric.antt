-- RULES, 'Geometric'. Assumes nothing.
use Rattle.std.specs.Prelude.{ℕ, ◌+◌, ◌-◌, ◌^◌, Bool, not, ◌&&◌, cond, List, [], ◌∷◌, Float}
use Rattle.std.specs.Float.{binary64}
use Rattle.std.specs.Float.Ieee.{sub, div, lt, le, eq}
use Rattle.words.specs.Words.{ratio, fraction_of}
use Rattle.words.specs.Outcome.{Outcome, drawn}
use Rattle.words.specs.Rule.{done, more, Rule, reading}
use Rattle.words.specs.Refusals.{Condition, ◌on◌}
use Rattle.words.specs.Draw.{Drawing}
use Rattle.search.specs.Squares.{half, squares}
use Rattle.search.specs.Search.{search_rule}

-- 0 ≤ p ≤ 1; -0.0 is in the range, a NaN is not
unfoldable pub is_probability : Float → Bool
is_probability p = le (ratio 0 1) p && le p (ratio 1 1)

-- p ≥ 2.0/3.0, the rounded quotient
unfoldable pub is_large : Float → Bool
is_large p = le (div binary64 (ratio 2 1) (ratio 3 1)) p

-- q = 1 - p, rounded
unfoldable pub q_of : Float → Float
q_of p = sub binary64 (ratio 1 1) p

-- q = 1: no success ever comes
unfoldable pub is_never : Float → Bool
is_never p = eq (q_of p) (ratio 1 1)

-- p ≥ 2/3: fractions above p are counted until one is at most p
abbrev pub trivial_rule : Float → Rule ℕ ℕ
trivial_rule p = record { start = more 0; step = λ n w. cond (le (fraction_of w) p) (done n) (more (n + 1)); short = λ s. 10 }

-- p ≥ 2/3: fractions above p; else q = 1: the count 2^64 - 1 with no word; else the search, with k and pi of the squarings
unfoldable pub geometric_reading : Float → List ℕ → Outcome ℕ
geometric_reading p ws =
    cond (is_large p)
    (reading (trivial_rule p) ws)
    (cond (is_never p)
    (drawn (2 ^ 64 - 1) 0)
    (reading (search_rule (q_of p) (2 ^ (squares (q_of p)).k) (squares (q_of p)).pi) ws))

-- p < 2/3, q is not 1, and 31 squarings leave it above 0.5
unfoldable pub is_too_rare : Float → Bool
is_too_rare p = not (is_large p) && not (is_never p) && lt half (squares (q_of p)).pi

-- the parameter's refusals: InvalidProbability, TooRare
abbrev pub probability_refusals : Float → List Condition
probability_refusals p = 8 on not (is_probability p) ∷ 9 on is_too_rare p ∷ []

-- the draw with the probability p
unfoldable pub geometric : Float → Drawing ℕ
geometric p = record { refusals = probability_refusals p; reads = geometric_reading p }
