-- The worked book, by one computation of the rules. Assumes nothing.
use mathlib.Core.Path.{refl}
use lib.Count.{count_leading_zeros}
use Rattle.words.specs.Words.{too_long}
use Rattle.words.specs.Rule.{read}
use Rattle.words.specs.Draw.{endings}
use Rattle.standard_geometric.specs.Standard.{standard_geometric}
use Rattle.bytes_le.specs.LittleEndian.{bytes_of, spelled, words_from}
use Rattle.bytes_le.specs.Zeros.{all_zero}
use Rattle.kinds.specs.Kinds.{numbered, kind_of, parameters_of, same_request}
use Rattle.entry.specs.Entry.{parameter_bytes, fixed_bytes, entry_bytes, entry_at}
use Rattle.layout.specs.Book.{length_all, used_all, head, decode_from, decode, book_too_long}
use Rattle.opening.specs.Calls.{is_damaged_for, booked_for}
use Rattle.book.specs.Deliver.{is_full, fresh_refusals, deliver_refusals, delivery, deliver_to, deliver}
use Rattle.book.specs.Worked.{Worked}

pub worked : Worked
unfolding count_leading_zeros too_long read endings standard_geometric bytes_of spelled all_zero numbered kind_of parameters_of same_request parameter_bytes fixed_bytes entry_bytes words_from entry_at length_all used_all head decode_from decode book_too_long is_damaged_for booked_for is_full fresh_refusals deliver_refusals delivery deliver_to deliver
worked = refl
