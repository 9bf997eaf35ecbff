-- RULES, 'The listing': all that is written of the bytes that are read. Assumes nothing.
use Rattle.std.specs.Prelude.{ℕ, List, [], ◌∷◌, ◌++◌, length}
use Rattle.words.specs.Outcome.{Outcome, drawn, refused}
use Rattle.words.specs.Refusals.{Condition, given}
use Rattle.words.specs.Words.{most_words, is_too_long}
use Rattle.kinds.specs.Kinds.{kind_number}
use Rattle.entry.specs.declared.Entry.{Entry}
use Rattle.opening.specs.Calls.{booked_for, limits_for}
use Rattle.writing.specs.Digits.{decimal}
use Rattle.writing.specs.Writing.{Writes}
use Rattle.lines.specs.Lines.{line, refused_line, serial_text, used_text, count_text}

-- words of the listing alone
abbrev pub kind_text : List ℕ
kind_text = 107 ∷ 105 ∷ 110 ∷ 100 ∷ []  -- "kind"

abbrev pub at_text : List ℕ
at_text = 97 ∷ 116 ∷ []  -- "at"

abbrev pub end_text : List ℕ
end_text = 101 ∷ 110 ∷ 100 ∷ []  -- "end"

-- the first line: `serial kind at used count`
unfoldable pub header : List ℕ
header = line (serial_text ∷ kind_text ∷ at_text ∷ used_text ∷ count_text ∷ [])

-- an entry's line
unfoldable pub entry_line : Entry → List ℕ
entry_line e =
    line (decimal e.serial ∷ decimal (kind_number e.request) ∷ decimal e.place ∷ decimal e.used ∷ decimal e.count ∷ [])

unfoldable pub entry_lines : List Entry → List ℕ
entry_lines [] = []
entry_lines (e ∷ es) = entry_line e ++ entry_lines es

-- after the entries, `end` and the number of entries
unfoldable pub end_line : ℕ → List ℕ
end_line n = line (end_text ∷ decimal n ∷ [])

unfoldable pub listed : List Entry → List ℕ
listed es = header ++ (entry_lines es ++ end_line (length es))

-- the first refusals of every call on a book, with the tape's length taken as 1,048,576 words: that is not too long, so that no book is refused with 1
abbrev pub listing_refusals : List ℕ → List Condition
listing_refusals b = limits_for (is_too_long most_words) most_words b

-- the entries of a sound book
abbrev pub entries_in : List ℕ → List Entry
entries_in b = booked_for most_words b

unfoldable pub listing_of : List ℕ → Outcome (List Entry)
listing_of b = given (listing_refusals b) (drawn (entries_in b) 0)

-- on refusal one line and nothing else
abbrev pub listing_text : Outcome (List Entry) → List ℕ
listing_text (drawn es u) = listed es
listing_text (refused n) = refused_line n

unfoldable pub listing : List ℕ → List ℕ
listing b = listing_text (listing_of b)

-- The contract of `listing`: of the book b its text stands at the front of the bytes out, which makes them after, and n is its length.
abbrev pub ListingAllows : List ℕ → List ℕ → ℕ → List ℕ → Type 0
ListingAllows b out n after = Writes out 0 (listing b) after n
