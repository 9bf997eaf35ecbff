-- `book_lines::put_listed` meets its contract: the header, the entries' lines and the end, in turn. Assumes nothing.
use Rattle.lines.specs.Lines.{line}
use Rattle.book_lines.specs.Listing.{header, end_line}
use Rattle.book_lines.proofs.Listed.{listed_written}
use Rattle.book_lines.proofs.put_listed.Goals as goal

pub returns : goal.returns
unfolding header end_line line
returns c = listed_written _ _ c.requires.1 c.put_text-begun.ensures c.put_entries-next.ensures c.put_numbered.ensures
