-- RULES, 'Draws to check by': the rows with a P. Assumes nothing.
use Rattle.std.specs.Prelude.{ℕ, ◌+◌, ◌-◌, ◌*◌, ◌^◌, List, [], ◌∷◌, map, ◌≡◌}
use Rattle.std.specs.Float.{binary64}
use Rattle.std.specs.Float.Ieee.{to_bits}
use Rattle.words.specs.Words.{ratio}
use Rattle.words.specs.Outcome.{Outcome, drawn}
use Rattle.kinds.specs.declared.Request.{Request}
use Rattle.kinds.specs.declared.Request.TheVariants.{Hypergeometric, Poisson, Geometric, StandardGeometric}
use Rattle.draws.specs.Request.{draw_of}

-- a request, words, and what is drawn
pub record Row : Type 0 where
  pub request : Request
  pub words : List ℕ
  pub count : ℕ
  pub used : ℕ

abbrev pub row : Request → List ℕ → ℕ → ℕ → Row
row r ws c u = record { request = r; words = ws; count = c; used = u }

-- the 64 bits of a / b
abbrev pub bits_of : ℕ → ℕ → ℕ
bits_of a b = to_bits binary64 (ratio a b)

abbrev pub table : List Row
table =
    row (Hypergeometric 60 24 7) (0 ∷ []) 0 1
    ∷ row (Hypergeometric 50 35 10) (0 ∷ []) 10 1
    ∷ row (Hypergeometric 10 3 6) (0 ∷ []) 3 1
    ∷ row (Hypergeometric 10 8 7) (0 ∷ []) 5 1
    ∷ row (Hypergeometric 2 1 1) (2 ^ 63 ∷ []) 0 1
    ∷ row (Hypergeometric 2 1 1) ((2 ^ 63 + 2048) ∷ []) 1 1
    ∷ row (Poisson (bits_of 1 2)) ((3 * 2 ^ 62) ∷ (3 * 2 ^ 62) ∷ (3 * 2 ^ 62) ∷ []) 2 3
    ∷ row (Geometric (bits_of 1 2)) (2 ^ 63 ∷ 1 ∷ 0 ∷ []) 1 3
    ∷ row (Geometric (bits_of 1 2)) (2 ^ 63 ∷ 1 ∷ 2 ^ 63 ∷ 0 ∷ 2 ^ 63 ∷ []) 0 5
    ∷ row (Geometric (bits_of 3 4)) ((2 ^ 64 - 1) ∷ 0 ∷ []) 1 2
    ∷ row StandardGeometric (0 ∷ 2 ^ 63 ∷ []) 64 2
    ∷ []

-- what the rules give, and what the row says
abbrev pub outcome : Row → Outcome ℕ
outcome r = draw_of r.request r.words

abbrev pub listed : Row → Outcome ℕ
listed r = drawn r.count r.used

-- the statement: the rules give every row
abbrev pub Table : Type 0
Table = map outcome table ≡ map listed table
