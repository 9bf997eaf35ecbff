-- RULES, 'Lines of pull': how many words a line has, and whether a word is this text. Assumes nothing.
use Rattle.std.specs.Prelude.{ℕ, ◌+◌, Bool, List, count_by, eqb}
use Rattle.std.specs.Str.{bytes_eq}
use Rattle.parted.specs.Parts.{space}

-- the number of spaces
unfoldable pub spaces : List ℕ → ℕ
spaces l = count_by (λ b. eqb b space) l

-- the number of words: two spaces together part an empty word, which is a word of no line that is read
unfoldable pub words : List ℕ → ℕ
words l = spaces l + 1

-- the same bytes, one after another
abbrev pub same_text : List ℕ → List ℕ → Bool
same_text a b = bytes_eq a b
