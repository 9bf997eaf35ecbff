-- RULES, 'Worked books', the first. One standard draw over the word 1 leaves these 24 bytes. Assumes nothing.
use Rattle.std.specs.Prelude.{ℕ, List, [], ◌∷◌, ◌≡◌, replicate}
use Rattle.words.specs.Outcome.{drawn}
use Rattle.kinds.specs.declared.Request.TheVariants.{StandardGeometric}
use Rattle.opening.specs.Calls.{call}
use Rattle.book.specs.Deliver.{fresh, deliver}

abbrev pub worked_book : List ℕ
worked_book =
    0x18 ∷ 0x00 ∷ 0x04 ∷ 0x00 ∷ 0x01 ∷ 0x00 ∷ 0x00 ∷ 0x00 ∷ 0x00 ∷ 0x00 ∷ 0x00 ∷ 0x00
    ∷ 0x01 ∷ 0x00 ∷ 0x00 ∷ 0x00 ∷ 0x3F ∷ 0x00 ∷ 0x00 ∷ 0x00 ∷ 0x00 ∷ 0x00 ∷ 0x00 ∷ 0x00 ∷ []

-- the statement
abbrev pub Worked : Type 0
Worked = deliver (1 ∷ []) (replicate 24 0) 1 StandardGeometric ≡ call (drawn (fresh 63) 1) worked_book
