-- Laws of what every call begins with: 1, 11 and 12, and then the entries of a sound book. Assumes nothing.
use mathlib.Core.Path.{◌≡◌, refl, sym, ap, ◌∙◌}
use mathlib.Core.Bool.{Bool, true, false}
use mathlib.Core.List.{List, [], ◌++◌}
use mathlib.Core.Option
use mathlib.Core.Option.{Option, some}
use Prim.Native.Nat.{ℕ, zero, suc, ◌+◌, ◌*◌, ◌≤◌, ◌<◌}
use native.Mathlib.Omega.{arith}
use lib.ListN.{length, get_or, take, drop, take-append-drop, drop_of_length-le}
use lib.Seq.{drop-cons}
use Rattle.layout.specs.Inner.{entries_from, Lie}
use borrow.Author.Tests.{le-ltb, ltb-false}
use Rattle.words.specs.Words.{most_words, too_long}
use Rattle.words.specs.Outcome.{Outcome, drawn, refused}
use Rattle.words.specs.Refusals.{Condition, given, First, NoneHolds}
use Rattle.words.proofs.Tape.{within_limit, limit_within}
use Rattle.words.proofs.Exactly.{first_given, first_before, given_append, none_given, drawn_exactly, exactly}
use Rattle.words.proofs.Reading.{refused_not_drawn}
use Rattle.bytes_le.proofs.Numbers.{Bytes}
use Rattle.std.specs.Prelude.{None, Some}
use Rattle.std.proofs.Common.{Fits, w8}
use Rattle.entry.specs.declared.Entry.{Entry}
use Rattle.entry.specs.Entry.{length_at, entry_at, blank}
use Rattle.layout.specs.Book.{length_all, used_all, decode, most_bytes, book_too_long, is_none}
use Rattle.layout.specs.Sound.{offset}
use Rattle.layout.specs.Standing.{standing}
use Rattle.layout.specs.Inner.{walked, Reaches}
use Rattle.entry.specs.Inner.{HasEntry}
use Rattle.kinds.specs.Kinds.{fixed_length}
use Rattle.layout.proofs.Decoding.{written, many, is_some}
use Rattle.layout.proofs.Positions.{length_all_append, lies_offset, lies_entry, lies_whole, lies_on_tape, lies_reach}
use Rattle.layout.proofs.Walking.{walked_damaged, walked_sound}
use Rattle.opening.specs.Calls.{is_damaged_for, booked_for, booked, limits_for, limits}
use Rattle.opening.specs.Inner.{IsOpen, opened}
use Rattle.layout.specs.declared.Standing.{Standing}

-- a call that passed its limits has the entries of a sound book
pub open_decodes : {long : Bool} (t : ℕ) (b : List ℕ) → NoneHolds (limits_for long t b) → decode t b ≡ some (booked_for t b)
unfolding booked_for is_damaged_for
open_decodes t b h = is_some (decode t b) h.1.1.0

-- and no more bytes than a book may have
pub open_book : {long : Bool} (t : ℕ) (b : List ℕ) → NoneHolds (limits_for long t b) → length b ≤ most_bytes
unfolding book_too_long
open_book t b h = ltb-false most_bytes (length b) h.1.0

module _ (ws b : List ℕ) where
  -- ---- past the limits

  -- its tape is within its limit
  pub open_tape : NoneHolds (limits ws b) → length ws ≤ most_words
  open_tape h = within_limit ws h.0

  -- and the other way round
  pub opens : (es : List Entry) → length ws ≤ most_words → length b ≤ most_bytes → decode (length ws) b ≡ some es → NoneHolds (limits ws b) × (booked ws b ≡ es)
  unfolding booked_for book_too_long is_damaged_for
  opens es h g e = (
    (limit_within ws h, (le-ltb most_bytes (length b) g, (ap is_none e, tt))),
    ap (λ (o : Option (List Entry)). Option.get_or o []) e,
  )

  -- what comes after them decides
  pub past_limits : {A : Type 0} (cs : List Condition) (o : Outcome A) → NoneHolds (limits ws b) → given (limits ws b ++ cs) o ≡ given cs o
  past_limits cs o h = given_append (limits ws b) cs o ∙ none_given (limits ws b) (given cs o) h

  -- ---- stopped by one of them

  pub stopped : {A : Type 0} (cs : List Condition) (o : Outcome A) (n : ℕ) → First n (limits ws b) → given (limits ws b ++ cs) o ≡ refused n
  stopped cs o n f = first_given (limits ws b ++ cs) o n (first_before (limits ws b) cs n f)

  -- ---- what `open_book` answers

  pub opened_long : too_long ws ≡ true → refused 1 ≡ opened ws b
  unfolding opened
  opened_long h = rw h

  module _ (h : too_long ws ≡ false) where
    pub opened_big : book_too_long b ≡ true → refused 11 ≡ opened ws b
    unfolding opened
    opened_big g = rw (h, g)

    module _ (g : book_too_long b ≡ false) where
      pub opened_damaged : None ≡ walked (length ws) b → refused 12 ≡ opened ws b
      unfolding opened is_damaged_for
      opened_damaged e = rw (h, g, walked_damaged (length ws) b e)

      pub opened_sound : (st : Standing) → Some st ≡ walked (length ws) b → drawn st 0 ≡ opened ws b
      unfolding opened book_too_long
      opened_sound st e =
          let t = walked_sound (length ws) b st e in
          let x = opens t.entries (within_limit ws h) (ltb-false most_bytes (length b) g) t.decoded in
          sym
          (none_given (limits ws b) (drawn (standing (booked ws b)) 0) x.0
          ∙ ap (λ (es : List Entry). drawn (standing es) 0) x.1
          ∙ sym (ap (λ (s : Standing). drawn s 0) t.stands))

  pub ruleset openings = (opened_long, opened_big, opened_damaged, opened_sound)

  -- ---- and what its answer tells

  pub refused_opening : (n : ℕ) → refused n ≡ opened ws b → First n (limits ws b)
  unfolding opened
  refused_opening n e =
      (exactly (limits ws b) (drawn (standing (booked ws b)) 0) (λ m x. refused_not_drawn m (standing (booked ws b)) 0 (sym x)) n).0 (sym e)

  pub sound_opening : (st : Standing) (u : ℕ) → drawn st u ≡ opened ws b → NoneHolds (limits ws b) × (standing (booked ws b) ≡ st)
  unfolding opened
  sound_opening st u e =
      let x = (drawn_exactly (limits ws b) (drawn (standing (booked ws b)) 0) st u).0 (sym e) in
      (x.0, cc)

-- ---- the entries of an open book, where they lie: for a tape of t words

module _ {long : Bool} (t : ℕ) (b : List ℕ) (by : Bytes b) (h : NoneHolds (limits_for long t b)) where
  abbrev es : List Entry
  es = booked_for t b

  -- they end within the book, and their words are on the tape
  pub open_room : (length_all (booked_for t b) ≤ length b) × (used_all (booked_for t b) ≤ t) × (fixed_length * length (booked_for t b) ≤ length b)
  open_room =
      let wr = written t b es by (open_decodes t b h) in
      (wr.room, omega (arith, wr.tape), omega (arith, wr.room, many es))

  pub open_reach : (k : ℕ) → k ≤ length (booked_for t b) → Reaches b k
  open_reach = lies_reach t b es by (open_decodes t b h) blank

  pub open_offset : (k : ℕ) → k ≤ length (booked_for t b) → offset b k ≡ length_all (take k (booked_for t b))
  open_offset = lies_offset t b es by (open_decodes t b h) blank

  pub open_within : (k : ℕ) → k ≤ length (booked_for t b) → offset b k ≤ length_all (booked_for t b)
  open_within k l =
      omega (arith, open_offset k l, ap length_all (take-append-drop k es), length_all_append (take k es) (drop k es))

  module _ (i : ℕ) (l : i < length (booked_for t b)) where
    pub open_entry : entry_at b (offset b i) ≡ some (get_or (booked_for t b) i blank)
    open_entry = lies_entry t b es by (open_decodes t b h) blank i l

    pub open_whole : HasEntry b (offset b i)
    open_whole = lies_whole t b es by (open_decodes t b h) blank i l

    pub open_place : (get_or (booked_for t b) i blank).place ≤ t
    open_place = lies_on_tape t b es by (open_decodes t b h) blank i l

    -- the next begins within the book
    pub open_next : (at : ℕ) → at ≡ offset b i → (at + 2 ≤ length b) × (at + length_at b at ≤ length b)
    unfolding offset
    open_next at ea = rw ea (open_reach (suc i) l i (omega arith))

    -- and what was read there is that entry
    pub open_read : (at : ℕ) (e : Entry) → at ≡ offset b i → entry_at b at ≡ some e → e ≡ get_or (booked_for t b) i blank
    open_read at e ea here = cc (ap (entry_at b) ea ∙ open_entry)

  -- those from the k-th on lie one after another
  open_from : (n k : ℕ) → k + n ≡ length (booked_for t b) → Lie n b (offset b k) × (entries_from n b (offset b k) ≡ drop k (booked_for t b))
  unfolding Lie entries_from offset
  open_from zero k e = (tt, sym (drop_of_length-le es (omega arith)))
  open_from (suc n) k e =
      let l : k < length es = omega arith in
      let r = open_from n (suc k) (omega arith) in
      let x = open_next k l (offset b k) refl in
      ((open_whole k l, x.0, x.1, r.0), rw (open_entry k l, r.1, drop-cons es k blank l))

  pub open_all : (n : ℕ) → n ≡ length (booked_for t b) → Lie n b 0 × (entries_from n b 0 ≡ booked_for t b)
  unfolding offset
  open_all n e = open_from n 0 (omega arith)

-- the same of what a call was told
pub stands_room : (ws b : List ℕ) (st : Standing) → Bytes b → IsOpen ws b st
    → (st.end ≤ length b) × (st.place ≤ length ws) × (fixed_length * st.entries ≤ length b) × (length b ≤ most_bytes)
stands_room ws b st by o =
    let r = open_room (length ws) b by o.0 in
    let en : length (booked ws b) ≡ st.entries = ap (λ (x : Standing). x.entries) o.1 in
    let ei : length_all (booked ws b) ≡ st.end = ap (λ (x : Standing). x.end) o.1 in
    let ep : used_all (booked ws b) ≡ st.place = ap (λ (x : Standing). x.place) o.1 in
    (omega arith, omega arith, omega arith, open_book (length ws) b o.0)

-- ---- and where they lie: of bytes that were lent, each of which fits

module _ (ws b : List ℕ) (st : Standing) (fits : (i : ℕ) → Fits w8 (get_or b i 0)) (o : IsOpen ws b st) where
  lent : Bytes b
  lent i = (fits i).fits

  number : length (booked ws b) ≡ st.entries
  number = ap (λ (x : Standing). x.entries) o.1

  -- they are few, they end within the book, and their words are on the tape
  pub stands_few : st.entries ≤ most_bytes
  stands_few = let r = stands_room ws b st lent o in omega (arith, r.2, r.3)

  pub stands_within : st.end ≤ length b
  stands_within = (stands_room ws b st lent o).0

  pub stands_on_tape : st.place ≤ length ws
  stands_on_tape = (stands_room ws b st lent o).1

  -- the first k of them can be passed
  pub stands_reach : (k : ℕ) → k ≤ st.entries → Reaches b k
  stands_reach k l = open_reach (length ws) b lent o.0 k (omega (arith, number))

  -- and the next begins where all end, or before that
  pub stands_before : (k at : ℕ) → k ≤ st.entries → at ≡ offset b k → at ≤ st.end
  stands_before k at l e =
      omega (arith, open_within (length ws) b lent o.0 k (omega (arith, number)), ap (λ (x : Standing). x.end) o.1)

  -- they lie one after another
  pub stands_all : Lie st.entries b 0 × (entries_from st.entries b 0 ≡ booked ws b)
  stands_all = open_all (length ws) b lent o.0 st.entries (sym number)

  -- each lies whole
  pub stands_whole : (k at : ℕ) → k < st.entries → at ≡ offset b k → HasEntry b at
  stands_whole k at l e = rw e (open_whole (length ws) b lent o.0 k (omega (arith, number)))

-- what every call's beginning gives it, for `grind`
pub ruleset standings = (sound_opening, stands_few, stands_within, stands_on_tape, stands_reach, stands_before, stands_all, stands_whole)
