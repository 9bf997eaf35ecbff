-- RULES, 'Text': a line, its words, parted by one space, and a newline. Assumes nothing.
use Rattle.std.specs.Prelude.{ℕ, List, [], ◌∷◌, ◌++◌}
use Rattle.writing.specs.Digits.{decimal}

-- 32 is a space, 10 a newline
unfoldable pub line : List (List ℕ) → List ℕ
line [] = 10 ∷ []
line (w ∷ []) = w ++ (10 ∷ [])
line (w ∷ v ∷ ws) = w ++ (32 ∷ line (v ∷ ws))

-- a refusal by its number: `refused 12`
abbrev pub refused_text : List ℕ
refused_text = 114 ∷ 101 ∷ 102 ∷ 117 ∷ 115 ∷ 101 ∷ 100 ∷ []  -- "refused"

unfoldable pub refused_line : ℕ → List ℕ
refused_line n = line (refused_text ∷ decimal n ∷ [])

-- words that the listing and the answers share
abbrev pub serial_text : List ℕ
serial_text = 115 ∷ 101 ∷ 114 ∷ 105 ∷ 97 ∷ 108 ∷ []  -- "serial"

abbrev pub used_text : List ℕ
used_text = 117 ∷ 115 ∷ 101 ∷ 100 ∷ []  -- "used"

abbrev pub count_text : List ℕ
count_text = 99 ∷ 111 ∷ 117 ∷ 110 ∷ 116 ∷ []  -- "count"
