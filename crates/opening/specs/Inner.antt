-- What a book that is open to a call is to inner functions: no entry point's contract and no demand rests on it. Assumes nothing.
use Rattle.std.specs.Prelude.{ℕ, List, Result, Ok, Err, ◌≡◌}
use Rattle.words.specs.declared.Refusal.{Refusal}
use Rattle.words.specs.Outcome.{Outcome, drawn, refused}
use Rattle.words.specs.Paper.{number_of}
use Rattle.words.specs.Refusals.{given, NoneHolds}
use Rattle.layout.specs.declared.Standing.{Standing}
use Rattle.layout.specs.Standing.{standing}
use Rattle.opening.specs.Calls.{booked, limits}

-- the book is open to a call, and this is how it stands: the number of entries, the end's offset and the tape's place
abbrev pub IsOpen : List ℕ → List ℕ → Standing → Type 0
IsOpen ws b st = NoneHolds (limits ws b) × (standing (booked ws b) ≡ st)

-- a book that is open to a call, or one of its first refusals
unfoldable pub opened : List ℕ → List ℕ → Outcome Standing
opened ws b = given (limits ws b) (drawn (standing (booked ws b)) 0)

-- what a call's beginning answers, in the rules' terms
abbrev pub opened_as : Result Standing Refusal → Outcome Standing
opened_as (Ok st) = drawn st 0
opened_as (Err x) = refused (number_of x)
