-- How a book stands (RULES, 'The book'): the number of entries, the end's offset and the tape's place. Assumes nothing.
use Rattle.std.specs.Prelude.{ℕ, List, length}
use Rattle.entry.specs.declared.Entry.{Entry}
use Rattle.layout.specs.declared.Standing.{Standing}
use Rattle.layout.specs.Book.{length_all, used_all}

abbrev pub stands : ℕ → ℕ → ℕ → Standing
stands n i p = record { entries = n; end = i; place = p }

-- how a book with these entries stands: all that a fresh delivery's rule sees of it
abbrev pub standing : List Entry → Standing
standing es = stands (length es) (length_all es) (used_all es)
