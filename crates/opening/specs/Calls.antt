-- RULES, 'The book' and 'Refusals': what every call on a book begins with. Assumes nothing.
use Rattle.std.specs.Prelude.{ℕ, Bool, List, [], ◌∷◌, length}
use Rattle.std.proofs.Math.Option.{get_or}
use Rattle.words.specs.Words.{too_long}
use Rattle.words.specs.Outcome.{Outcome}
use Rattle.words.specs.Refusals.{Condition, ◌on◌}
use Rattle.entry.specs.declared.Entry.{Entry}
use Rattle.layout.specs.Book.{book_too_long, decode, is_none}

-- what a call comes to, and the book at its end
pub record Call (A : Type 0) : Type 0 where
  pub outcome : Outcome A
  pub book : List ℕ

abbrev pub call : {A : Type 0} → Outcome A → List ℕ → Call A
call o b = record { outcome = o; book = b }

-- refusal 12's condition: the book is not sound for a tape of t words
unfoldable pub is_damaged_for : ℕ → List ℕ → Bool
is_damaged_for t b = is_none (decode t b)

abbrev pub is_damaged : List ℕ → List ℕ → Bool
is_damaged ws b = is_damaged_for (length ws) b

-- the entries of a book that is sound for a tape of t words
unfoldable pub booked_for : ℕ → List ℕ → List Entry
booked_for t b = get_or (decode t b) []

abbrev pub booked : List ℕ → List ℕ → List Entry
booked ws b = booked_for (length ws) b

-- the first refusals of every call on a book, in their order, by whether the tape is too long and the number of its words
abbrev pub limits_for : Bool → ℕ → List ℕ → List Condition
limits_for long t b = 1 on long ∷ 11 on book_too_long b ∷ 12 on is_damaged_for t b ∷ []

abbrev pub limits : List ℕ → List ℕ → List Condition
limits ws b = limits_for (too_long ws) (length ws) b
