-- Entries that stand in a book, and all that a delivery and a strike can do to it (`deliver_by`, `strike_by`). Assumes nothing.
use mathlib.Core.Path.{◌≡◌, refl, sym, ap, ◌∙◌, subst}
use mathlib.Core.Bool.{Bool, false}
use mathlib.Core.List.{List, [], ◌∷◌, ◌++◌}
use mathlib.Core.Logic.{◌↔◌}
use Prim.Native.Nat.{ℕ, suc, ◌+◌, ◌-◌, ◌<◌, ◌≤◌}
use native.Mathlib.Omega.{arith}
use lib.Dec.{eqb, ltb}
use lib.ListN.{length, take, drop, length-drop, take-append-drop}
use lib.Seq.{split_at, length-take-le}
use borrow.Author.Tests.{lt-ltb, le-ltb, eqb-true, eqb-false, ltb-false, not-false}
use Rattle.words.specs.Words.{most_words}
use Rattle.words.specs.Outcome.{Outcome, drawn, refused}
use Rattle.words.specs.Inner as words
use Rattle.words.specs.Refusals.{Condition, ◌on◌, First, NoneHolds}
use Rattle.words.specs.Draw.{shorts, endings}
use Rattle.words.proofs.Tape.{limit_within}
use Rattle.words.proofs.Exactly.{none_before}
use Rattle.words.proofs.Drawing.{accepted_exactly, accepted_reading}
use Rattle.bytes_le.specs.Zeros.{wiped}
use Rattle.kinds.specs.declared.Request.{Request}
use Rattle.draws.specs.Request.{drawing, parameter_refusals, reading_of, draw_of}
use Rattle.draws.proofs.Laws as draws
use Rattle.kinds.specs.Kinds.{length_of, RequestFits}
use Rattle.entry.specs.declared.Entry.{Entry}
use Rattle.entry.specs.Entry.{booking, blank}
use Rattle.layout.specs.Book.{length_all, used_all, encode, most_bytes}
use Rattle.kinds.proofs.Requests.{same_exactly}
use Rattle.entry.proofs.Entries.{Fits}
use Rattle.layout.proofs.Decoding.{by-test, neither_holds, Chain, many, length_encode, encode_decodes}
use Rattle.layout.proofs.Changing.{chain_snoc, append_encode, wiped_encode}
use Rattle.layout.proofs.Positions.{length_all_append, used_all_append, length_one, used_one, chain_left, chain_mid}
use Rattle.opening.specs.Calls.{Call, call, booked, limits}
use Rattle.layout.specs.Standing.{standing}
use Rattle.book.specs.Deliver.{Booking, fresh, copy, is_next, is_ahead, booked_at, is_reused, is_full, when_next, fresh_refusals, deliver_refusals, freshly, copied, delivery, delivering, deliver_to, deliver}
use Rattle.book.specs.Inner.{fresh_delivery}
use Rattle.book.specs.Strike.{strike_refusals, left_by, striking, strike_in, strike}
use Rattle.opening.proofs.Opening.{opens}
use Rattle.book.proofs.Fresh.{fresh_booked}
use Rattle.book.proofs.Delivering as book
use Rattle.book.proofs.Refusals.{fresh_covered}
use Rattle.demands.proofs.Laws.{by_given, not_both, by_outcome, none_append, none_after}

-- ---- what stands

-- an entry is what its request draws at its place
abbrev pub DrawnAt : List ℕ → Entry → Type 0
DrawnAt ws e = draw_of e.request (drop e.place ws) ≡ drawn e.count e.used

abbrev pub AllDrawn : List ℕ → List Entry → Type 0
AllDrawn ws [] = Unit
AllDrawn ws (e ∷ es) = DrawnAt ws e × AllDrawn ws es

-- entries one after another, in a book of n bytes and on the tape, each drawn at its place
pub record Stands (ws : List ℕ) (n : ℕ) (es : List Entry) : Type 0 where
  pub chain : Chain 1 0 es
  pub room : length_all es ≤ n
  pub tape : used_all es ≤ length ws
  pub drawn : AllDrawn ws es

-- the same of entries one after another, of the first of them and of one between others
drawn_append : (ws : List ℕ) (xs ys : List Entry) → AllDrawn ws xs → AllDrawn ws ys → AllDrawn ws (xs ++ ys)
drawn_append ws [] ys a b = b
drawn_append ws (x ∷ xs) ys a b = (a.0, drawn_append ws xs ys a.1 b)

drawn_left : (ws : List ℕ) (xs ys : List Entry) → AllDrawn ws (xs ++ ys) → AllDrawn ws xs
drawn_left ws [] ys a = tt
drawn_left ws (x ∷ xs) ys a = (a.0, drawn_left ws xs ys a.1)

pub drawn_mid : (ws : List ℕ) (xs ys : List Entry) (e : Entry) → AllDrawn ws (xs ++ e ∷ ys) → DrawnAt ws e
drawn_mid ws [] ys e a = a.0
drawn_mid ws (x ∷ xs) ys e a = drawn_mid ws xs ys e a.1

-- no entries stand
pub stands_none : (ws : List ℕ) (n : ℕ) → Stands ws n []
unfolding length_all used_all
stands_none ws n = record { chain = tt; room = omega arith; tape = omega arith; drawn = tt }

-- the first of entries that stand do
pub stands_left : (ws : List ℕ) (n : ℕ) (xs ys : List Entry) → Stands ws n (xs ++ ys) → Stands ws n xs
stands_left ws n xs ys st =
    record {
      chain = chain_left xs ys 1 0 st.chain;
      room = omega (arith, length_all_append xs ys);
      tape = omega (arith, used_all_append xs ys);
      drawn = drawn_left ws xs ys st.drawn;
    }

-- ---- a delivery's conditions

-- a fresh delivery passes its conditions and reads a count exactly where there is room for it and its request draws that count
pub fresh_exactly : (vs b : List ℕ) (end : ℕ) (r : Request) (c u : ℕ) → length vs ≤ most_words
    → (NoneHolds (fresh_refusals vs b end r) × (reading_of r vs ≡ drawn c u)) ↔ ((is_full b end r ≡ false) × (draw_of r vs ≡ drawn c u))
unfolding fresh_refusals
fresh_exactly vs b end r c u le =
    let ps : List Condition = parameter_refusals r in
    let ends : List Condition = endings shorts (reading_of r vs) in
    let full : Condition = 15 on is_full b end r in
    let law = accepted_exactly (drawing r) vs c u in (
      λ h.
          let rest : NoneHolds (full ∷ ends) = none_after ps (full ∷ ends) h.0 in
          (rest.0, law.1 ((limit_within vs le, none_append ps ends (none_before ps (full ∷ ends) h.0) rest.1), h.1)),
      λ h.
          let x = law.0 h.1 in
          (none_append ps (full ∷ ends) (none_before ps ends x.0.1) (h.0, none_after ps ends x.0.1), x.1),
    )

-- ---- calls on a book of entries that stand, within the limits of tape and book

module _ (ws : List ℕ) (n : ℕ) (within : length ws ≤ most_words) (small : n ≤ most_bytes) (es : List Entry) (st : Stands ws n es) where
  abbrev b : List ℕ
  b = encode n es

  abbrev vs : List ℕ
  vs = drop (used_all es) ws

  -- they find the entries
  pub found : NoneHolds (limits ws b) × (booked ws b ≡ es)
  found = opens ws b es within (rw (length_encode n es st.room) small) (encode_decodes (length ws) n es st.chain st.room st.tape)

  -- the words from the book's place on are no more than the tape's
  short : length vs ≤ most_words
  short = omega (arith, length-drop (used_all es) ws)

  -- an entry has room exactly where the book is not full
  room_left : (r : Request) → (is_full b (length_all es) r ≡ false) ↔ (length_all es + length_of r ≤ n)
  unfolding is_full
  room_left r =
      let left : ℕ = length b - length_all es in
      let all : length b ≡ n = length_encode n es st.room in
      (λ e. omega (arith, st.room, ltb-false left (length_of r) e), λ h. le-ltb left (length_of r) (omega arith))

  -- a request that is drawn at the book's place, and whose entry has room
  module _ (r : Request) (c u : ℕ) (room : length_all es + length_of r ≤ n) (drew : draw_of r vs ≡ drawn c u) where
    abbrev new : Entry
    new = booking r (length es + 1) (used_all es) u c

    on_tape : used_all es + u ≤ length ws
    on_tape =
        let reads : reading_of r vs ≡ drawn c u = accepted_reading (drawing r) vs c u drew in
        omega (arith, st.tape, draws.request_within r vs c u reads, length-drop (used_all es) ws)

    new_fits : RequestFits r → Fits new
    new_fits fit =
        record {
          request_fits = fit;
          serial_fits = omega (arith, many es);
          place_fits = omega (arith, on_tape);
          used_fits = omega (arith, on_tape);
          count_fits = draws.request_count r vs c u drew;
        }

    -- its entry stands after the others
    stands_more : RequestFits r → Stands ws n (es ++ (new ∷ []))
    stands_more fit =
        record {
          chain = chain_snoc es 1 0 new st.chain (new_fits fit) (omega arith) (omega arith);
          room = omega (arith, length_all_append es (new ∷ []), length_one new);
          tape = omega (arith, on_tape, used_all_append es (new ∷ []), used_one new);
          drawn = drawn_append ws es (new ∷ []) st.drawn (drew, tt);
        }

    -- and it is what its delivery with the serial that is next books
    pub deliver_fresh : deliver ws b (length es + 1) r ≡ call (drawn (fresh c) u) (encode n (es ++ (new ∷ [])))
    deliver_fresh =
        sym (book.deliver_fresh ws b (length es + 1) r found.0 (ap (λ (l : List Entry). length l + 1) (sym found.1)))
        ∙ ap (λ (l : List Entry). fresh_delivery ws b (standing l) r) found.1
        ∙ sym (fresh_booked ws b (standing es) r within (words.drew c u) new _ (sym drew) ((room_left r).1 room) refl refl)
        ∙ ap (call (drawn (fresh c) u)) (append_encode n es new room)

  -- What a delivery can do: refuse by the condition that holds first, tell again what the entry with its serial and request booked, or
  -- book one entry more.
  module _ (s : ℕ) (r : Request) (fit : RequestFits r) (P : Call Booking → Type 0)
      (refuses : (m : ℕ) → First m (deliver_refusals ws (encode n es) es s r) → P (call (refused m) (encode n es)))
      (copies : (xs ys : List Entry) (e : Entry) → es ≡ xs ++ e ∷ ys → e.serial ≡ s → e.request ≡ r
      → P (call (drawn (copy e.count) e.used) (encode n es)))
      (books : (e : Entry) → e.serial ≡ s → e.request ≡ r → Stands ws n (es ++ (e ∷ []))
      → P (call (drawn (fresh e.count) e.used) (encode n (es ++ (e ∷ []))))) where
    abbrev by : Outcome Booking → Type 0
    by o = P (delivering o b (standing es) r)

    abbrev asked : List Condition
    asked = fresh_refusals vs b (length_all es) r

    fresh_by : s ≡ length es + 1 → NoneHolds asked → by (freshly (reading_of r vs))
    fresh_by e h =
        by_outcome (λ (o : Outcome ℕ). by (freshly o)) (reading_of r vs)
        (λ c u reads.
        let x = (fresh_exactly vs b (length_all es) r c u short).0 (h, reads) in
        let room : length_all es + length_of r ≤ n = (room_left r).0 x.0 in
        let e' : Entry = booking r (length es + 1) (used_all es) u c in
        rw (append_encode n es e' room) (books e' (sym e) refl (stands_more r c u room x.1 fit)))
        (λ m reads. let x = fresh_covered vs b (length_all es) r m reads in absurd (not_both asked x.0 h x.1))

    copy_by : is_next (length es) s ≡ false → is_ahead (length es) s ≡ false → is_reused es s r ≡ false → by (copied (booked_at es s))
    copy_by next ahead reused =
        let e : Entry = booked_at es s in
        let i : ℕ = s - 1 in
        let a = neither_holds (eqb s 0) (ltb (length es + 1) s) ahead in
        let below : s ≤ length es = omega (arith, eqb-false s (length es + 1) next, ltb-false (length es + 1) s a.1) in
        let above : 0 < s = omega (arith, eqb-false s 0 a.0) in
        let whole : es ≡ take i es ++ e ∷ drop (suc i) es = split_at es i blank (omega arith) in
        let mid = chain_mid (take i es) (drop (suc i) es) e 1 0 (rw whole at st.chain) in
        let serial : e.serial ≡ s = omega (arith, mid.1.0, length-take-le i es (omega arith)) in
        let same : e.request ≡ r = (same_exactly e.request r).0 (not-false _ (rw (lt-ltb s (length es + 1) (omega arith)) at reused)) in
        copies (take i es) (drop (suc i) es) e whole serial same

    pub deliver_by : P (deliver ws (encode n es) s r)
    unfolding deliver deliver_to deliver_refusals delivery
    deliver_by =
        subst (λ (x : List Entry). P (deliver_to ws b x s r)) (sym found.1)
        (by_given by (deliver_refusals ws b es s r) (delivery ws es s r) refuses
        (λ h.
        let rest = h.1.1.1 in
        by-test by (is_next (length es) s)
        (λ t. fresh_by (eqb-true s (length es + 1) t) (subst NoneHolds (ap (λ (x : Bool). when_next x asked) t ∙ book.next_asked asked) rest.1.1))
        (λ t. copy_by t rest.0 rest.1.0)))

  -- What a strike can do: refuse by the condition that holds first, or leave all but the last j entries.
  module _ (j : ℕ) (P : Call ℕ → Type 0)
      (refuses : (m : ℕ) → First m (strike_refusals ws (encode n es) es j) → P (call (refused m) (encode n es)))
      (leaves : j ≤ length es → Stands ws n (left_by j es) → P (call (drawn (length es - j) 0) (encode n (left_by j es)))) where
    pub strike_by : P (strike ws (encode n es) j)
    unfolding strike strike_in strike_refusals
    strike_by =
        let xs : List Entry = left_by j es in
        let ys : List Entry = drop (length es - j) es in
        let whole : xs ++ ys ≡ es = take-append-drop (length es - j) es in
        let all : Stands ws n (xs ++ ys) = rw whole st in
        let bytes : wiped (length_all xs) (length_all es) b ≡ encode n xs =
        ap (λ (l : List Entry). wiped (length_all xs) (length_all l) (encode n l)) (sym whole) ∙ wiped_encode n xs ys all.room in
        rw found.1
        (by_given (λ (o : Outcome ℕ). P (striking o b es j)) (strike_refusals ws b es j) (drawn (length es - j) 0) refuses
        (λ h. rw bytes (leaves (ltb-false (length es) j h.1.1.1.0) (stands_left ws n xs ys all))))
