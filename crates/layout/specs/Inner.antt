-- What inner functions ask of the bytes that they are lent, and what the walk tells of them: no entry point's contract and no demand rests on it. Assumes nothing.
use Rattle.std.specs.Prelude.{ℕ, zero, suc, ◌+◌, ◌≤◌, ◌<◌, List, [], ◌∷◌, None, Some, ⊤, length}
use Rattle.std.specs.Prelude.{Option as RustOption}
use Rattle.std.proofs.Math.Option.{Option, none, some, get_or}
use Rattle.entry.specs.declared.Entry.{Entry}
use Rattle.entry.specs.Entry.{length_at, entry_at, blank}
use Rattle.entry.specs.Inner.{HasEntry}
use Rattle.layout.specs.declared.Standing.{Standing}
use Rattle.layout.specs.Book.{decode}
use Rattle.layout.specs.Standing.{standing}
use Rattle.layout.specs.Sound.{offset}

-- k entries lie one after another within the book
abbrev pub Reaches : List ℕ → ℕ → Type 0
Reaches b k = (i : ℕ) → i < k → (offset b i + 2 ≤ length b) × (offset b (suc i) ≤ length b)

-- the n entries from a place on
unfoldable pub entries_from : ℕ → List ℕ → ℕ → List Entry
entries_from zero b at = []
entries_from (suc n) b at = get_or (entry_at b at) blank ∷ entries_from n b (at + length_at b at)

-- n entries lie one after another within the book from a place on, each of them one of the table's kinds
unfoldable pub Lie : ℕ → List ℕ → ℕ → Type 0
Lie zero b at = ⊤
Lie (suc n) b at = HasEntry b at × (at + 2 ≤ length b) × (at + length_at b at ≤ length b) × Lie n b (at + length_at b at)

-- the walk over a book, for a tape of t words: how it stands, or nothing where it is not sound
abbrev pub telling : Option (List Entry) → RustOption Standing
telling none = None
telling (some es) = Some (standing es)

unfoldable pub walked : ℕ → List ℕ → RustOption Standing
walked t b = telling (decode t b)
