-- What inner functions speak of: no entry point's contract and no demand rests on it. Assumes nothing.
use Rattle.std.specs.Prelude.{ℕ, List, [], ◌∷◌, ◌++◌}
use Rattle.writing.specs.Digits.{decimal}
use Rattle.names.specs.Names.{name_of}
use Rattle.lines.specs.Lines.{line, refused_text, serial_text, used_text, count_text}

-- the words of a booking's line after its first
unfoldable pub counts_after : ℕ → ℕ → ℕ → List ℕ
counts_after s c u = line (serial_text ∷ decimal s ∷ count_text ∷ decimal c ∷ used_text ∷ decimal u ∷ [])

-- the first words of a refusal's line, and the byte after them: a space, or the line's newline
unfoldable pub refused_by : ℕ → ℕ → List ℕ
refused_by n e = (refused_text ++ (32 ∷ [])) ++ ((decimal n ++ (32 ∷ [])) ++ (name_of n ++ (e ∷ [])))
