-- RULES, 'Lines of pull': where a line ends, and what its text is. Assumes nothing.
use Rattle.std.specs.Prelude.{ℕ, ◌+◌, Bool, ◌&&◌, List, eqb, leb, length}
use Rattle.numerals.specs.Split.{up_to}

abbrev pub newline : ℕ
newline = 10

abbrev pub carriage_return : ℕ
carriage_return = 13

-- the bytes before the first newline
abbrev pub before_newline : List ℕ → List ℕ
before_newline l = up_to newline l

-- the text: of these, the bytes before the first carriage return
unfoldable pub text_of : List ℕ → List ℕ
text_of l = up_to carriage_return (before_newline l)

-- the first newline is there, and is the last byte
abbrev pub is_ended : List ℕ → Bool
is_ended l = eqb (length (before_newline l) + 1) (length l)

-- between the text and the newline there is a carriage return at most
abbrev pub is_bare : List ℕ → Bool
is_bare l = leb (length (before_newline l)) (length (text_of l) + 1)

unfoldable pub is_line : List ℕ → Bool
is_line l = is_ended l && is_bare l
