-- The lines of the entries left, written from here on, leave the lines of all. Assumes nothing.
use Rattle.std.proofs.Common.{◌≡◌, ℕ, ◌+◌, ◌*◌, ◌≤◌, List, length}
use Rattle.writing.specs.Writing.{Writes}
use Rattle.book_lines.specs.Listing.{entries_in, entry_lines}
use Rattle.book_lines.proofs.Listed.{Short}
use Rattle.book_lines.proofs.put_entries.Given as goal

abbrev pub invariant-loop-entry : goal.invariant-loop-entry
invariant-loop-entry l =
    Short l.entry-iterator
    × (l.to + 60 * length l.entry-iterator ≤ length l.out)
    × (length l.out ≡ length l.fn.out)
    × ((m : List ℕ) (j : ℕ) → Writes l.out l.to (entry_lines l.entry-iterator) m j → Writes l.fn.out l.at (entry_lines (entries_in l.book)) m j)
