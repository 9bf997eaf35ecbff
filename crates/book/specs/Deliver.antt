-- RULES, 'The book', Deliver, and 'Refusals': order 1, 11, 12, 13, then copy or 14, the parameters', 15, and the refusals of a tape that is
-- too short. Assumes nothing.
use Rattle.std.specs.Prelude.{ℕ, ◌+◌, ◌-◌, Bool, cond, not, ◌&&◌, ◌||◌, List, [], ◌∷◌, ◌++◌, Result, Ok, Err, ◌≡◌, eqb, ltb, length, get_or, drop}
use Rattle.std.proofs.lemmas.List.Edits.{sets}
use Rattle.words.specs.declared.Refusal.{Refusal}
use Rattle.words.specs.Outcome.{Outcome, drawn, refused}
use Rattle.words.specs.Refusals.{Condition, ◌on◌, given}
use Rattle.words.specs.Draw.{shorts, endings}
use Rattle.words.specs.Paper.{number_of}
use Rattle.kinds.specs.declared.Request.{Request}
use Rattle.kinds.specs.Kinds.{length_of, same_request}
use Rattle.draws.specs.Request.{parameter_refusals, reading_of}
use Rattle.entry.specs.declared.Entry.{Entry}
use Rattle.layout.specs.declared.Standing.{Standing}
use Rattle.entry.specs.Entry.{booking, blank, entry_bytes}
use Rattle.layout.specs.Standing.{standing}
use Rattle.book.specs.declared.Delivered.{Delivered}
use Rattle.book.specs.declared.Delivered.TheVariants.{Fresh, Copy}
use Rattle.opening.specs.Calls.{Call, call, booked, limits}

-- what an accepted delivery is told: a count freshly drawn, or the count booked before, marked as a copy
pub data Booking : Type 0 where
  fresh : ℕ → Booking
  copy : ℕ → Booking

-- serials run 1, 2, 3.., so that after n entries the last serial plus 1 is n + 1
abbrev pub is_next : ℕ → ℕ → Bool
is_next n s = eqb s (n + 1)

-- 13: serial 0 or above next
abbrev pub is_ahead : ℕ → ℕ → Bool
is_ahead n s = eqb s 0 || ltb (n + 1) s

-- the booking of a serial that is below next
abbrev pub booked_at : List Entry → ℕ → Entry
booked_at es s = get_or es (s - 1) blank

-- 14: serial below next, other request
abbrev pub is_reused : List Entry → ℕ → Request → Bool
is_reused es s r = ltb s (length es + 1) && not (same_request (booked_at es s).request r)

-- 15: entry longer than the room left after the end's offset
unfoldable pub is_full : List ℕ → ℕ → Request → Bool
is_full b end r = ltb (length b - end) (length_of r)

-- conditions of a serial that is next, and of no other
abbrev pub when_next : Bool → List Condition → List Condition
when_next next [] = []
when_next next (c ∷ cs) = c.number on (next && c.holds) ∷ when_next next cs

-- parameters, 15, a tape that is too short: the words vs are those from the book's place on
unfoldable pub fresh_refusals : List ℕ → List ℕ → ℕ → Request → List Condition
fresh_refusals vs b end r = parameter_refusals r ++ (15 on is_full b end r ∷ endings shorts (reading_of r vs))

unfoldable pub deliver_refusals : List ℕ → List ℕ → List Entry → ℕ → Request → List Condition
deliver_refusals ws b es s r =
    limits ws b
    ++ (13 on is_ahead (length es) s
    ∷ 14 on is_reused es s r
    ∷ when_next (is_next (length es) s) (fresh_refusals (drop (standing es).place ws) b (standing es).end r))

-- a fresh delivery is drawn
abbrev pub freshly : Outcome ℕ → Outcome Booking
freshly (drawn c u) = drawn (fresh c) u
freshly (refused n) = refused n

-- a copy gets the booked count and used
abbrev pub copied : Entry → Outcome Booking
copied e = drawn (copy e.count) e.used

-- what a delivery comes to where it is not refused: drawn from the tape at the book's place, or a copy
unfoldable pub delivery : List ℕ → List Entry → ℕ → Request → Outcome Booking
delivery ws es s r = cond (is_next (length es) s) (freshly (reading_of r (drop (standing es).place ws))) (copied (booked_at es s))

-- the entry that books it: the serial that is next, the tape's place before the draw, and what was drawn
abbrev pub booking_at : Standing → Request → ℕ → ℕ → Entry
booking_at st r c u = booking r (st.entries + 1) st.place u c

-- a fresh delivery that is accepted is appended, and no byte outside its entry changes; nothing else changes a byte
abbrev pub after_delivery : Outcome Booking → List ℕ → Standing → Request → List ℕ
after_delivery (drawn (fresh c) u) b st r = sets b st.end (entry_bytes (booking_at st r c u))
after_delivery (drawn (copy c) u) b st r = b
after_delivery (refused n) b st r = b

abbrev pub delivering : Outcome Booking → List ℕ → Standing → Request → Call Booking
delivering o b st r = call o (after_delivery o b st r)

-- a delivery into a book with the entries es
unfoldable pub deliver_to : List ℕ → List ℕ → List Entry → ℕ → Request → Call Booking
deliver_to ws b es s r = delivering (given (deliver_refusals ws b es s r) (delivery ws es s r)) b (standing es) r

unfoldable pub deliver : List ℕ → List ℕ → ℕ → Request → Call Booking
deliver ws b s r = deliver_to ws b (booked ws b) s r

-- what a delivery answers, in the rules' terms; nothing is lost (`one_delivered`)
abbrev pub delivered : Result Delivered Refusal → Outcome Booking
delivered (Ok (Fresh d)) = drawn (fresh d.count) d.used
delivered (Ok (Copy d)) = drawn (copy d.count) d.used
delivered (Err x) = refused (number_of x)

-- The contract of `deliver`: over the words ws and the book b at entry, the answer a and the book c at exit are the rule's.
abbrev pub DeliverAllows : List ℕ → List ℕ → ℕ → Request → Result Delivered Refusal → List ℕ → Type 0
DeliverAllows ws b s r a c = call (delivered a) c ≡ deliver ws b s r
