-- RULES, 'Worked books', the second. A tape of 17 words and a book of 140 bytes; deliveries of every kind, copies and a strike; each answer,
-- and every byte after each call. No two fields of an entry have the same value, but for the kind 1 and the word that a hypergeometric draw
-- uses. Assumes nothing.
use Rattle.std.specs.Prelude.{ℕ, List, [], ◌∷◌, ◌++◌, ◌≡◌, replicate}
use Rattle.words.specs.Outcome.{Outcome, drawn}
use Rattle.kinds.specs.declared.Request.{Request}
use Rattle.kinds.specs.declared.Request.TheVariants.{Hypergeometric, Poisson, Geometric, StandardGeometric}
use Rattle.opening.specs.Calls.{call}
use Rattle.book.specs.Deliver.{Booking, fresh, copy, deliver}
use Rattle.book.specs.Strike.{strike}

-- The words, by who reads them: a run of two and its end, a try that is not taken and one that is; two zeros and a word with five of 64 bits
-- before its first 1; one for the tray, and for the draw that is struck; six for Knuth's product.
abbrev pub tape : List ℕ
tape =
    0x1000000000000000 ∷ 0x4000000000000000 ∷ 0xA000000000000000
    ∷ 0x0123456789ABCDEF ∷ 0x8000000000000000 ∷ 0x0F1E2D3C4B5A6976 ∷ 0x7000000000000000
    ∷ 0 ∷ 0 ∷ 0x0400000000000000
    ∷ 0xA800000000000000
    ∷ 0xE800000000000000 ∷ 0xE000000000000000 ∷ 0xD000000000000000 ∷ 0xC800000000000000 ∷ 0xB000000000000000 ∷ 0x9000000000000000
    ∷ []

-- the requests: p = 1/4, T = 3/8 and T = 5/16 by their bits
abbrev pub rate : Request
rate = Geometric 0x3FD0000000000000

abbrev pub threshold : Request
threshold = Poisson 0x3FD8000000000000

abbrev pub other_threshold : Request
other_threshold = Poisson 0x3FD4000000000000

abbrev pub tray : Request
tray = Hypergeometric 50 35 12

-- The entries: length, kind and serial on a line, then at and used, count, and the parameters. This is length 32, kind 3, serial 1, at 0,
-- used 7, count 10.
abbrev pub first : List ℕ
first =
    0x20 ∷ 0x00 ∷ 0x03 ∷ 0x00 ∷ 0x01 ∷ 0x00 ∷ 0x00 ∷ 0x00
    ∷ 0x00 ∷ 0x00 ∷ 0x00 ∷ 0x00 ∷ 0x07 ∷ 0x00 ∷ 0x00 ∷ 0x00
    ∷ 0x0A ∷ 0x00 ∷ 0x00 ∷ 0x00 ∷ 0x00 ∷ 0x00 ∷ 0x00 ∷ 0x00
    ∷ 0x00 ∷ 0x00 ∷ 0x00 ∷ 0x00 ∷ 0x00 ∷ 0x00 ∷ 0xD0 ∷ 0x3F ∷ []

-- length 24, kind 4, serial 2, at 7, used 3, count 133
abbrev pub second : List ℕ
second =
    0x18 ∷ 0x00 ∷ 0x04 ∷ 0x00 ∷ 0x02 ∷ 0x00 ∷ 0x00 ∷ 0x00
    ∷ 0x07 ∷ 0x00 ∷ 0x00 ∷ 0x00 ∷ 0x03 ∷ 0x00 ∷ 0x00 ∷ 0x00
    ∷ 0x85 ∷ 0x00 ∷ 0x00 ∷ 0x00 ∷ 0x00 ∷ 0x00 ∷ 0x00 ∷ 0x00 ∷ []

-- length 32, kind 2, serial 3, at 10, used 5, count 4: struck again
abbrev pub struck_third : List ℕ
struck_third =
    0x20 ∷ 0x00 ∷ 0x02 ∷ 0x00 ∷ 0x03 ∷ 0x00 ∷ 0x00 ∷ 0x00
    ∷ 0x0A ∷ 0x00 ∷ 0x00 ∷ 0x00 ∷ 0x05 ∷ 0x00 ∷ 0x00 ∷ 0x00
    ∷ 0x04 ∷ 0x00 ∷ 0x00 ∷ 0x00 ∷ 0x00 ∷ 0x00 ∷ 0x00 ∷ 0x00
    ∷ 0x00 ∷ 0x00 ∷ 0x00 ∷ 0x00 ∷ 0x00 ∷ 0x00 ∷ 0xD8 ∷ 0x3F ∷ []

-- length 48, kind 1, serial 3, at 10, used 1, count 8, N 50, K 35, n 12
abbrev pub third : List ℕ
third =
    0x30 ∷ 0x00 ∷ 0x01 ∷ 0x00 ∷ 0x03 ∷ 0x00 ∷ 0x00 ∷ 0x00
    ∷ 0x0A ∷ 0x00 ∷ 0x00 ∷ 0x00 ∷ 0x01 ∷ 0x00 ∷ 0x00 ∷ 0x00
    ∷ 0x08 ∷ 0x00 ∷ 0x00 ∷ 0x00 ∷ 0x00 ∷ 0x00 ∷ 0x00 ∷ 0x00
    ∷ 0x32 ∷ 0x00 ∷ 0x00 ∷ 0x00 ∷ 0x00 ∷ 0x00 ∷ 0x00 ∷ 0x00
    ∷ 0x23 ∷ 0x00 ∷ 0x00 ∷ 0x00 ∷ 0x00 ∷ 0x00 ∷ 0x00 ∷ 0x00
    ∷ 0x0C ∷ 0x00 ∷ 0x00 ∷ 0x00 ∷ 0x00 ∷ 0x00 ∷ 0x00 ∷ 0x00 ∷ []

-- length 32, kind 2, serial 4, at 11, used 6, count 5
abbrev pub fourth : List ℕ
fourth =
    0x20 ∷ 0x00 ∷ 0x02 ∷ 0x00 ∷ 0x04 ∷ 0x00 ∷ 0x00 ∷ 0x00
    ∷ 0x0B ∷ 0x00 ∷ 0x00 ∷ 0x00 ∷ 0x06 ∷ 0x00 ∷ 0x00 ∷ 0x00
    ∷ 0x05 ∷ 0x00 ∷ 0x00 ∷ 0x00 ∷ 0x00 ∷ 0x00 ∷ 0x00 ∷ 0x00
    ∷ 0x00 ∷ 0x00 ∷ 0x00 ∷ 0x00 ∷ 0x00 ∷ 0x00 ∷ 0xD4 ∷ 0x3F ∷ []

-- a call, what it is told, and the book after it
pub data Row : Type 0 where
  delivers : ℕ → Request → Outcome Booking → List ℕ → Row
  strikes : ℕ → Outcome ℕ → List ℕ → Row

-- each call is told this and leaves these bytes, from the bytes b on
abbrev pub Plays : List ℕ → List Row → Type 0
Plays b [] = Unit
Plays b (delivers s r o c ∷ rows) = (deliver tape b s r ≡ call o c) × Plays c rows
Plays b (strikes j o c ∷ rows) = (strike tape b j ≡ call o c) × Plays c rows

abbrev pub calls : List Row
calls =
    delivers 1 rate (drawn (fresh 10) 7) (first ++ replicate 108 0)
    ∷ delivers 2 StandardGeometric (drawn (fresh 133) 3) (first ++ (second ++ replicate 84 0))
    ∷ delivers 3 threshold (drawn (fresh 4) 5) (first ++ (second ++ (struck_third ++ replicate 52 0)))
    ∷ delivers 1 rate (drawn (copy 10) 7) (first ++ (second ++ (struck_third ++ replicate 52 0)))
    ∷ strikes 1 (drawn 2 0) (first ++ (second ++ replicate 84 0))
    ∷ delivers 3 tray (drawn (fresh 8) 1) (first ++ (second ++ (third ++ replicate 36 0)))
    ∷ delivers 4 other_threshold (drawn (fresh 5) 6) (first ++ (second ++ (third ++ (fourth ++ replicate 4 0))))
    ∷ delivers 2 StandardGeometric (drawn (copy 133) 3) (first ++ (second ++ (third ++ (fourth ++ replicate 4 0))))
    ∷ []

-- the statement
abbrev pub SecondBook : Type 0
SecondBook = Plays (replicate 140 0) calls
