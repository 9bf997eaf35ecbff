-- RULES, 'Lines of pull': the line that answers a call. Assumes nothing.
use Rattle.std.specs.Prelude.{ℕ, List, [], ◌∷◌}
use Rattle.std.proofs.Math.Option.{Option, none, some}
use Rattle.words.specs.Outcome.{Outcome, drawn, refused}
use Rattle.book.specs.Deliver.{Booking, fresh, copy}
use Rattle.redraws.specs.Redraw.{Redrawing}
use Rattle.writing.specs.Digits.{decimal}
use Rattle.names.specs.Names.{name_of}
use Rattle.lines.specs.Lines.{line, refused_text, serial_text, used_text, count_text}

-- the words that begin an answer
abbrev pub booked_text : List ℕ
booked_text = 98 ∷ 111 ∷ 111 ∷ 107 ∷ 101 ∷ 100 ∷ []  -- "booked"

abbrev pub copy_text : List ℕ
copy_text = 99 ∷ 111 ∷ 112 ∷ 121 ∷ []  -- "copy"

abbrev pub left_text : List ℕ
left_text = 108 ∷ 101 ∷ 102 ∷ 116 ∷ []  -- "left"

abbrev pub kept_text : List ℕ
kept_text = 107 ∷ 101 ∷ 112 ∷ 116 ∷ []  -- "kept"

abbrev pub agrees_text : List ℕ
agrees_text = 97 ∷ 103 ∷ 114 ∷ 101 ∷ 101 ∷ 115 ∷ []  -- "agrees"

-- a refusal, by its number and its name: `refused 13 SerialAhead`
unfoldable pub refusal_line : ℕ → List ℕ
refusal_line n = line (refused_text ∷ decimal n ∷ name_of n ∷ [])

-- a booking or a copy of it: `booked serial 7 count 2 used 1`
unfoldable pub count_line : List ℕ → ℕ → ℕ → ℕ → List ℕ
count_line t s c u = line (t ∷ serial_text ∷ decimal s ∷ count_text ∷ decimal c ∷ used_text ∷ decimal u ∷ [])

-- a delivery of the serial s
abbrev pub delivery_line : ℕ → Outcome Booking → List ℕ
delivery_line s (drawn (fresh c) u) = count_line booked_text s c u
delivery_line s (drawn (copy c) u) = count_line copy_text s c u
delivery_line s (refused n) = refusal_line n

-- a strike: the number of entries left, `left 8`
abbrev pub strike_line : Outcome ℕ → List ℕ
strike_line (drawn n u) = line (left_text ∷ decimal n ∷ [])
strike_line (refused n) = refusal_line n

-- a strike from another number of entries than stand: these, `kept 9`
unfoldable pub kept_line : ℕ → List ℕ
kept_line n = line (kept_text ∷ decimal n ∷ [])

-- a redraw: the number of entries that agree, `agrees 10`, or the serial that a 17 names, `refused 17 RedrawDiffers serial 4`
abbrev pub named_line : ℕ → Option ℕ → List ℕ
named_line n none = refusal_line n
named_line n (some s) = line (refused_text ∷ decimal n ∷ name_of n ∷ serial_text ∷ decimal s ∷ [])

abbrev pub outcome_line : Outcome ℕ → Option ℕ → List ℕ
outcome_line (drawn n u) s = line (agrees_text ∷ decimal n ∷ [])
outcome_line (refused n) s = named_line n s

abbrev pub redraw_line : Redrawing → List ℕ
redraw_line o = outcome_line o.outcome o.named

-- a line that can't be read, by its number: `unread line 34`
abbrev pub unread_text : List ℕ
unread_text = 117 ∷ 110 ∷ 114 ∷ 101 ∷ 97 ∷ 100 ∷ []  -- "unread"

abbrev pub line_text : List ℕ
line_text = 108 ∷ 105 ∷ 110 ∷ 101 ∷ []  -- "line"

unfoldable pub unread_line : ℕ → List ℕ
unread_line n = line (unread_text ∷ line_text ∷ decimal n ∷ [])
