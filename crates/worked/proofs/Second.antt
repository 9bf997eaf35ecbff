-- The second worked book, by computing the rules, call by call. Assumes nothing.
use mathlib.Core.Path.{refl}
use lib.Count.{count_leading_zeros}
use lib.Ieee.{round, lt, le, eq, sub, mul, div, of_int, of_bits}
use Rattle.words.specs.Words.{too_long, fraction_of}
use Rattle.words.specs.Rule.{read}
use Rattle.words.specs.Draw.{endings}
use Rattle.poisson.specs.Poisson.{in_range, poisson}
use Rattle.search.specs.Power.{halved, power_of}
use Rattle.search.specs.Squares.{squaring, squares}
use Rattle.geometric.specs.Geometric.{is_probability, is_large, q_of, is_never, is_too_rare, geometric_reading, geometric}
use Rattle.standard_geometric.specs.Standard.{standard_geometric}
use Rattle.hypergeometric.specs.Reduction.{by_marked, by_sample, reduction}
use Rattle.first_probability.specs.First.{times_in, over_in, at_factor, factors, fraction_of_factorials, first_probability}
use Rattle.hypergeometric.specs.SetUp.{set_up, is_taken, zero_or_not_finite, tray_refusals}
use Rattle.hypergeometric.specs.Inversion.{next_p, walk, inverted}
use Rattle.hypergeometric.specs.Hypergeometric.{counted, hypergeometric}
use Rattle.bytes_le.specs.LittleEndian.{bytes_of, spelled, words_from}
use Rattle.bytes_le.specs.Zeros.{all_zero, wiped}
use Rattle.kinds.specs.Kinds.{numbered, kind_of, request_of, parameters_of, same_request}
use Rattle.entry.specs.Entry.{parameter_bytes, fixed_bytes, entry_bytes, entry_at}
use Rattle.layout.specs.Book.{length_all, used_all, head, decode_from, decode, book_too_long}
use Rattle.opening.specs.Calls.{is_damaged_for, booked_for}
use Rattle.book.specs.Deliver.{is_full, fresh_refusals, deliver_refusals, delivery, deliver_to, deliver}
use Rattle.book.specs.Strike.{strike_refusals, strike_in, strike}
use Rattle.worked.specs.Second.{SecondBook}

pub second_book : SecondBook
unfolding count_leading_zeros round lt le eq sub mul div of_int of_bits too_long fraction_of read endings in_range poisson halved power_of squaring squares is_probability is_large q_of is_never is_too_rare geometric_reading geometric standard_geometric by_marked by_sample reduction times_in over_in at_factor factors fraction_of_factorials first_probability set_up is_taken zero_or_not_finite tray_refusals next_p walk inverted counted hypergeometric bytes_of spelled words_from all_zero numbered kind_of request_of parameters_of same_request parameter_bytes fixed_bytes entry_bytes entry_at length_all used_all head decode_from decode book_too_long is_damaged_for booked_for is_full fresh_refusals deliver_refusals delivery deliver_to deliver wiped strike_refusals strike_in strike
second_book = (refl, (refl, (refl, (refl, (refl, (refl, (refl, (refl, tt))))))))
