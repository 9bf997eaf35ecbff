-- 'No byte outside its entry changes' and 'nothing else changes' (RULES, 'The book'), byte by byte: what a delivery and a strike leave.
-- Assumes nothing.
use mathlib.Core.Path.{◌≡◌, refl, sym, ap, ◌∙◌}
use mathlib.Core.List.{List, [], ◌∷◌}
use Prim.Native.Nat.{ℕ, ◌+◌, ◌-◌, ◌≤◌, ◌<◌}
use native.Mathlib.Omega.{arith}
use lib.Dec.{ltb}
use lib.ListN.{length, get_or, drop, take-append-drop}
use Rattle.words.specs.Outcome.{Outcome, drawn, refused}
use Rattle.words.specs.Refusals.{◌on◌, NoneHolds}
use Rattle.words.proofs.Exactly.{drawn_exactly, none_before}
use Rattle.bytes_le.proofs.Numbers.{Bytes}
use Rattle.bytes_le.proofs.Elsewhere.{ChangedWithin, unchanged_within, stored_within, wiped_zero, wiped_within}
use Rattle.kinds.specs.declared.Request.{Request}
use Rattle.kinds.specs.Kinds.{length_of}
use Rattle.entry.specs.declared.Entry.{Entry}
use Rattle.entry.specs.Entry.{entry_bytes}
use Rattle.entry.proofs.Entries.{length_entry}
use Rattle.layout.specs.Book.{length_all}
use Rattle.layout.specs.Standing.{standing}
use Rattle.layout.proofs.Positions.{length_all_append}
use Rattle.opening.specs.Calls.{booked, limits}
use Rattle.opening.proofs.Opening.{open_room}
use Rattle.book.specs.Deliver.{Booking, fresh, copy, booking_at, after_delivery, deliver_to, deliver}
use Rattle.book.specs.Strike.{left_by, after_strike, strike_refusals, strike_in, strike}

-- ---- a delivery

after_elsewhere : (o : Outcome Booking) (b : List ℕ) (es : List Entry) (r : Request)
    → ChangedWithin (length_all es) (length_all es + length_of r) b (after_delivery o b (standing es) r)
after_elsewhere (drawn (fresh c) u) b es r =
    let e : Entry = booking_at (standing es) r c u in
    stored_within b (length_all es) (entry_bytes e) (length_all es + length_of r) (ap (λ (n : ℕ). length_all es + n) (sym (length_entry e)))
after_elsewhere (drawn (copy c) u) b es r = unchanged_within (length_all es) (length_all es + length_of r) b
after_elsewhere (refused n) b es r = unchanged_within (length_all es) (length_all es + length_of r) b

-- no byte outside its entry changes: the entry's bytes are those from the end of the entries on, as many as its kind has
pub delivery_elsewhere : (ws b : List ℕ) (s : ℕ) (r : Request)
    → ChangedWithin (length_all (booked ws b)) (length_all (booked ws b) + length_of r) b (deliver ws b s r).book
unfolding deliver deliver_to
delivery_elsewhere ws b s r = after_elsewhere (deliver ws b s r).outcome b (booked ws b) r

-- ---- a strike

module _ (ws b : List ℕ) (j : ℕ) (by : Bytes b) where
  abbrev es : List Entry
  es = booked ws b

  -- the entries that are left end before those that were there
  fewer : length_all (left_by j es) ≤ length_all es
  fewer =
      let rest : List Entry = drop (length es - j) es in
      omega (arith, length_all_append (left_by j es) rest, ap length_all (take-append-drop (length es - j) es))

  -- a strike that is accepted struck a sound book, whose entries lie within it
  accepted_room : (m u : ℕ) → (strike ws b j).outcome ≡ drawn m u → length_all es ≤ length b
  unfolding strike strike_in strike_refusals
  accepted_room m u e =
      let h : NoneHolds (limits ws b) = none_before (limits ws b) (16 on ltb (length es) j ∷ []) ((drawn_exactly (strike_refusals ws b es j) (drawn (length es - j) 0) m u).0 e).0 in
      (open_room (length ws) b by h).0

  -- the last j entries' bytes are those from the end of the ones left to the end of all: they become zero
  pub strike_zeros : (m u : ℕ) → (strike ws b j).outcome ≡ drawn m u → (k : ℕ) → length_all (left_by j (booked ws b)) ≤ k → k < length_all (booked ws b)
      → get_or (strike ws b j).book k 0 ≡ 0
  unfolding strike strike_in
  strike_zeros m u e k low high =
      ap (λ (o : Outcome ℕ). get_or (after_strike o b es j) k 0) e
      ∙ wiped_zero (length_all (left_by j es)) (length_all es) b fewer (accepted_room m u e) k low high

  after_struck : (o : Outcome ℕ) → ((m u : ℕ) → o ≡ drawn m u → length_all es ≤ length b)
      → ChangedWithin (length_all (left_by j es)) (length_all es) b (after_strike o b es j)
  after_struck (drawn m u) room = wiped_within (length_all (left_by j es)) (length_all es) b fewer (room m u refl)
  after_struck (refused n) room = unchanged_within (length_all (left_by j es)) (length_all es) b

  -- and nothing else changes
  pub strike_elsewhere : ChangedWithin (length_all (left_by j (booked ws b))) (length_all (booked ws b)) b (strike ws b j).book
  unfolding strike strike_in
  strike_elsewhere = after_struck (strike ws b j).outcome accepted_room
