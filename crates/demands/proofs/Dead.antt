-- Four dead programs (RULES, 'Dead programs'), against the contract at the worked book: a standard draw over the
-- word 1 into 24 zero bytes, and a second one after it. Assumes nothing.
use mathlib.Core.Path.{◌≡◌, ap, ◌∙◌}
use mathlib.Core.List.{List, [], ◌∷◌, ◌++◌}
use Prim.Native.Nat.{ℕ}
use native.Mathlib.Omega.{arith}
use lib.Count.{count_leading_zeros}
use lib.ListN.{get_or, replicate}
use Rattle.std.proofs.Common.{Result, Ok, Err}
use Rattle.words.specs.declared.Refusal.{Refusal}
use Rattle.words.specs.Outcome.{drawn}
use Rattle.words.specs.Inner.{drew}
use Rattle.words.specs.Words.{too_long}
use Rattle.words.specs.Rule.{read}
use Rattle.words.specs.Draw.{endings}
use Rattle.kinds.specs.declared.Request.TheVariants.{StandardGeometric}
use Rattle.standard_geometric.specs.Standard.{standard_geometric}
use Rattle.bytes_le.specs.LittleEndian.{bytes_of, spelled, words_from}
use Rattle.bytes_le.specs.Zeros.{all_zero}
use Rattle.kinds.specs.Kinds.{numbered, kind_of, request_of, parameters_of, same_request}
use Rattle.entry.specs.Entry.{parameter_bytes, fixed_bytes, entry_bytes, entry_at}
use Rattle.layout.specs.Book.{length_all, used_all, head, decode_from, decode, book_too_long}
use Rattle.book.specs.declared.Delivered.{Delivered}
use Rattle.book.specs.declared.Delivered.TheVariants.{Fresh}
use Rattle.opening.specs.Calls.{is_damaged_for, booked_for, Call}
use Rattle.book.specs.Deliver.{Booking, fresh, delivered, is_full, fresh_refusals, deliver_refusals, delivery, deliver_to, deliver, DeliverAllows}
use Rattle.book.specs.Worked.{worked_book}
use Rattle.book.proofs.Worked.{worked}

-- the delivery of the worked book, answered by a and leaving c
abbrev Answers : Result Delivered Refusal → List ℕ → Type 0
Answers a c = DeliverAllows (1 ∷ []) (replicate 24 0) 1 StandardGeometric a c

told : (a : Result Delivered Refusal) (c : List ℕ) → Answers a c → delivered a ≡ drawn (fresh 63) 1
told a c e = ap (λ (x : Call Booking). x.outcome) (e ∙ worked)

-- one that refuses everything
pub refuses_everything : (x : Refusal) (c : List ℕ) → Answers (Err x) c → ⊥
refuses_everything x c e = let z : ◌≡◌ {A = ℕ} 0 1 = cc (told (Err x) c e) in omega arith

-- one whose count is always 0
pub counts_zero : (u : ℕ) (c : List ℕ) → Answers (Ok (Fresh (drew 0 u))) c → ⊥
counts_zero u c e = let z : ◌≡◌ {A = ℕ} 0 63 = cc (told (Ok (Fresh (drew 0 u))) c e) in omega arith

-- one that invents words used
pub invents_used : (u : ℕ) (c : List ℕ) → Answers (Ok (Fresh (drew 63 u))) c → u ≡ 1
invents_used u c e = cc (told (Ok (Fresh (drew 63 u))) c e)

-- one that leaves the book untouched, whatever it answers
pub untouched : (a : Result Delivered Refusal) → Answers a (replicate 24 0) → ⊥
untouched a e =
    let z : ◌≡◌ {A = ℕ} 0 24 = ap (λ (x : Call Booking). get_or x.book 0 0) (e ∙ worked) in
    omega arith

-- one that books the first delivery and only nods at the next: two words and room for two
pub nods : (a : Result Delivered Refusal) → DeliverAllows (1 ∷ 1 ∷ []) (worked_book ++ replicate 24 0) 2 StandardGeometric a (worked_book ++ replicate 24 0) → ⊥
unfolding count_leading_zeros too_long read endings standard_geometric bytes_of spelled all_zero numbered kind_of request_of parameters_of same_request parameter_bytes fixed_bytes entry_bytes words_from entry_at length_all used_all head decode_from decode book_too_long is_damaged_for booked_for is_full fresh_refusals deliver_refusals delivery deliver_to deliver
nods a e =
    let z : ◌≡◌ {A = ℕ} 0 24 = ap (λ (x : Call Booking). get_or x.book 24 0) e in
    omega arith
