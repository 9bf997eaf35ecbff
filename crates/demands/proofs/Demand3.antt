-- Demand 3, proved: the book always holds the entries of the history, and they stand. Assumes nothing.
use mathlib.Core.Path.{◌≡◌, refl, sym, ap, ap₂, ◌∙◌}
use mathlib.Core.List.{List, [], ◌∷◌, ◌++◌, map, map-append, append-nil}
use mathlib.Core.Option.{none}
use Prim.Native.Nat.{ℕ, zero, suc, ◌+◌, ◌-◌, ◌≤◌, ◌<◌}
use native.Mathlib.Decide.{dec_le}
use native.Mathlib.Omega.{arith}
use lib.ListN.{length, get_or, take, drop, replicate, length-append, length-replicate, length-map, get_or-map}
use lib.Seq.{append_snoc, get_or_at, get_or-append_seam, split_at}
use borrow.Author.Tests.{eq-eqb}
use Rattle.words.specs.Words.{most_words}
use Rattle.words.specs.Outcome.{Outcome, drawn}
use Rattle.words.specs.Refusals.{NoneHolds}
use Rattle.kinds.specs.declared.Request.{Request}
use Rattle.draws.specs.Request.{draw_of}
use Rattle.kinds.specs.Kinds.{length_of, RequestFits}
use Rattle.entry.specs.declared.Entry.{Entry}
use Rattle.entry.specs.Entry.{booking, blank}
use Rattle.layout.specs.Book.{length_all, used_all, encode, most_bytes}
use Rattle.kinds.proofs.Requests.{same_self}
use Rattle.layout.proofs.Decoding.{Chain, no_entries, zeros_decode}
use Rattle.layout.proofs.Positions.{length_all_append, chain_mid}
use Rattle.opening.specs.Calls.{Call, call, booked_for, booked, limits}
use Rattle.layout.specs.Standing.{standing}
use Rattle.book.specs.Deliver.{Booking, fresh, copy, booked_at, deliver_refusals, delivery, delivering, deliver_to, deliver}
use Rattle.book.specs.Strike.{strike_refusals, left_by, striking, strike_in, strike}
use Rattle.redraws.specs.Redraw.{agrees, lowest, redraw}
use Rattle.opening.proofs.Opening.{open_tape, open_book}
use Rattle.book.proofs.Delivering.{deliver_copy}
use Rattle.redraws.proofs.Redrawing.{redraw_agrees}
use Rattle.demands.specs.Demand3 as stated
use Rattle.demands.specs.Demand3.{Operation, Stood, stood, after_delivering, after_striking, State, state, Called, Runs, OperationsFit, InSerialOrder, Redelivers, Kept, Demand3}
use Rattle.demands.specs.Lines.{next, run}
use Rattle.demands.proofs.Laws.{by_given}
use Rattle.demands.proofs.Standing.{AllDrawn, drawn_mid, Stands, stands_none, stands_left, found, deliver_fresh, deliver_by, strike_by}

-- ---- past the limits of tape or book

-- every call is refused, and leaves the book and the history as they were
still : (ws : List ℕ) (st : State) (o : Operation) → (NoneHolds (limits ws st.book) → ⊥) → next ws st o ≡ st
unfolding deliver deliver_to deliver_refusals strike strike_in strike_refusals
still ws st (stated.delivering s r) over =
    let b : List ℕ = st.book in
    let es : List Entry = booked ws b in
    by_given (λ (o : Outcome Booking). state (delivering o b (standing es) r).book (after_delivering s r o st.history) ≡ st)
    (deliver_refusals ws b es s r) (delivery ws es s r)
    (λ m f. refl) (λ h. absurd (over (h.0, (h.1.0, (h.1.1.0, tt)))))
still ws st (stated.striking j) over =
    let b : List ℕ = st.book in
    let es : List Entry = booked ws b in
    by_given (λ (o : Outcome ℕ). state (striking o b es j).book (after_striking j o st.history) ≡ st)
    (strike_refusals ws b es j) (drawn (length es - j) 0)
    (λ m f. refl) (λ h. absurd (over (h.0, (h.1.0, (h.1.1.0, tt)))))

all_still : (ws : List ℕ) (os : List Operation) (st : State) → (NoneHolds (limits ws st.book) → ⊥) → run ws st os ≡ st
all_still ws [] st over = refl
all_still ws (o ∷ os) st over = rw (still ws st o over) (all_still ws os st over)

-- and with no history nothing is left to show
no_part : (before after : List Stood) (x : Stood) → [] ≡ before ++ x ∷ after → ⊥
no_part before after x e = omega (arith, ap length e, length-append before (x ∷ after))

module _ (ws : List ℕ) (n : ℕ) (over : length ws ≤ most_words → n ≤ most_bytes → ⊥) where
  empty_kept : Kept ws n (state (replicate n 0) [])
  empty_kept =
      record {
        in_order = tt;
        bytes = refl;
        copies = λ before after x e. absurd (no_part before after x e);
        clean = λ a b. absurd (over a b);
      }

  over_still : (os : List Operation) → run ws (state (replicate n 0) []) os ≡ state (replicate n 0) []
  over_still os =
      all_still ws os (state (replicate n 0) [])
      (λ h. over (open_tape ws (replicate n 0) h) (rw length-replicate at (open_book (length ws) (replicate n 0) h)))

  over_kept : (os : List Operation) → Kept ws n (run ws (state (replicate n 0) []) os)
  over_kept os = rw (over_still os) empty_kept

-- a book of zeros has no entry, whatever the limits
none_booked : (t n : ℕ) → booked_for t (replicate n 0) ≡ []
unfolding booked_for
none_booked t n = rw (zeros_decode t n)

-- ---- within them: the book holds entries that stand, and the history is theirs

-- the booking that an entry is
abbrev pub stood_of : Entry → Stood
stood_of e = stood e.serial e.request e.count e.used

pub record Held (ws : List ℕ) (n : ℕ) (st : State) : Type 0 where
  pub entries : List Entry
  pub holds : encode n entries ≡ st.book
  pub history_is : map stood_of entries ≡ st.history
  pub stands : Stands ws n entries

-- the first of the entries are the first of the history
map_take : (k : ℕ) (xs : List Entry) → map stood_of (take k xs) ≡ take k (map stood_of xs)
map_take zero xs = refl
map_take (suc k) [] = refl
map_take (suc k) (x ∷ xs) = ap (λ (l : List Stood). stood_of x ∷ l) (map_take k xs)

-- and its serials are theirs
in_serial_order : (es : List Entry) (s p : ℕ) → Chain s p es → InSerialOrder s (map stood_of es)
in_serial_order [] s p c = tt
in_serial_order (e ∷ es) s p c = (c.0.1.0, in_serial_order es (s + 1) (p + e.used) c.1)

-- entries that are drawn at their places agree, so that no serial is the lowest that doesn't
none_lowest : (ws : List ℕ) (es : List Entry) → AllDrawn ws es → lowest ws es ≡ none
unfolding lowest agrees
none_lowest ws [] a = refl
none_lowest ws (e ∷ es) a = rw (a.0, eq-eqb e.count e.count refl, eq-eqb e.used e.used refl) (none_lowest ws es a.1)

module _ (ws : List ℕ) (n : ℕ) (within : length ws ≤ most_words) (small : n ≤ most_bytes) where
  -- entries that stand are held
  abbrev same : (es : List Entry) → Stands ws n es → Held ws n (state (encode n es) (map stood_of es))
  same es st = record { entries = es; holds = refl; history_is = refl; stands = st }

  -- every call leaves entries that stand, and their history
  deliver_held : (es : List Entry) → Stands ws n es → (s : ℕ) (r : Request) → RequestFits r
      → Held ws n (next ws (state (encode n es) (map stood_of es)) (stated.delivering s r))
  deliver_held es st s r fit =
      deliver_by ws n within small es st s r fit
      (λ (x : Call Booking). Held ws n (state x.book (after_delivering s r x.outcome (map stood_of es))))
      (λ m f. same es st) (λ xs ys e w q k. same es st)
      (λ e q k all. rw (← q, ← k, ← map-append stood_of es (e ∷ [])) (same (es ++ (e ∷ [])) all))

  strike_held : (es : List Entry) → Stands ws n es → (j : ℕ) → Held ws n (next ws (state (encode n es) (map stood_of es)) (stated.striking j))
  strike_held es st j =
      strike_by ws n within small es st j (λ (x : Call ℕ). Held ws n (state x.book (after_striking j x.outcome (map stood_of es))))
      (λ m f. same es st) (λ h left. rw (length-map es stood_of, ← map_take (length es - j) es) (same (left_by j es) left))

  next_held : (st : State) (o : Operation) (os : List Operation) → OperationsFit (o ∷ os) → Held ws n st
      → Held ws n (next ws st o) × OperationsFit os
  next_held st (stated.delivering s r) os fit hd = (rw (← hd.holds, ← hd.history_is) (deliver_held hd.entries hd.stands s r fit.0), fit.1)
  next_held st (stated.striking j) os fit hd = (rw (← hd.holds, ← hd.history_is) (strike_held hd.entries hd.stands j), fit)

  -- and so do calls one after another
  pub run_held : (os : List Operation) (st : State) → OperationsFit os → Held ws n st → Held ws n (run ws st os)
  run_held [] st fit hd = hd
  run_held (o ∷ os) st fit hd = let x = next_held st o os fit hd in run_held os (next ws st o) x.1 x.0

  -- ---- an entry that stands, delivered again
  module _ (xs ys : List Entry) (e : Entry) (st : Stands ws n (xs ++ e ∷ ys)) where
    serial_is : e.serial ≡ length xs + 1
    serial_is = omega (arith, (chain_mid xs ys e 1 0 st.chain).1.0)

    place_is : e.place ≡ used_all xs
    place_is = omega (arith, (chain_mid xs ys e 1 0 st.chain).1.1)

    -- as a copy, where the book holds it
    copied_again : deliver ws (encode n (xs ++ e ∷ ys)) e.serial e.request
        ≡ call (drawn (copy e.count) e.used) (encode n (xs ++ e ∷ ys))
    copied_again =
        let es : List Entry = xs ++ e ∷ ys in
        let b : List ℕ = encode n es in
        let f = found ws n within small es st in
        let len : length es ≡ length xs + suc (length ys) = length-append xs (e ∷ ys) in
        let many : length (booked ws b) ≡ length es = ap length f.1 in
        let here : booked_at (booked ws b) e.serial ≡ e =
        ap (λ (l : List Entry). booked_at l e.serial) f.1 ∙ get_or_at xs e ys blank (e.serial - 1) (omega (arith, serial_is)) in
        sym (deliver_copy ws b e.serial e.request f.0 (λ z. omega (arith, serial_is)) (omega (arith, serial_is)))
        ∙ rw (here, same_self e.request)

    -- and freshly, where it holds the entries before it
    booked_again : deliver ws (encode n xs) e.serial e.request ≡ call (drawn (fresh e.count) e.used) (encode n (xs ++ (e ∷ [])))
    booked_again =
        let r : Request = e.request in
        let room : length_all xs + length_of r ≤ n = unfold length_all in omega (arith, st.room, length_all_append xs (e ∷ ys)) in
        let drew : draw_of r (drop (used_all xs) ws) ≡ drawn e.count e.used = rw place_is at (drawn_mid ws xs ys e st.drawn) in
        let is-e : booking r (length xs + 1) (used_all xs) e.used e.count ≡ e =
        ap₂ (λ (k p : ℕ). booking r k p e.used e.count) (sym serial_is) (sym place_is) in
        ap (λ (k : ℕ). deliver ws (encode n xs) k r) serial_is
        ∙ deliver_fresh ws n within small xs (stands_left ws n xs (e ∷ ys) st) r e.count e.used room drew
        ∙ ap (λ (x : Entry). call (drawn (fresh e.count) e.used) (encode n (xs ++ (x ∷ [])))) is-e

  -- ---- what is demanded, of entries that stand

  -- delivered once each they leave the book as it is
  redelivered : (ys xs : List Entry) → Stands ws n (xs ++ ys) → Redelivers ws (encode n xs) (map stood_of ys) (encode n (xs ++ ys))
  redelivered [] xs st = ap (encode n) (sym (append-nil xs))
  redelivered (e ∷ ys) xs st =
      let again = booked_again xs ys e st in
      let whole : xs ++ (e ∷ []) ++ ys ≡ xs ++ e ∷ ys = append_snoc xs e ys in
      (ap (λ (x : Call Booking). x.outcome) again, rw (again, ← whole) (redelivered ys (xs ++ (e ∷ [])) (rw whole st)))

  -- their book redraws clean
  clean_again : (es : List Entry) → Stands ws n es → redraw ws (encode n es) ≡ record { outcome = drawn (length es) 0; named = none }
  clean_again es st =
      let f = found ws n within small es st in
      sym (redraw_agrees ws (encode n es) f.0 (rw f.1 (none_lowest ws es st.drawn)))
      ∙ ap (λ (l : List Entry). record { outcome = drawn (length l) 0; named = none }) f.1

  -- a booking of the history is the entry that stands at its place
  copied_at : (es xs ys : List Entry) (e : Entry) (x : Stood) → es ≡ xs ++ e ∷ ys → stood_of e ≡ x → Stands ws n es
      → deliver ws (encode n es) x.serial x.request ≡ call (drawn (copy x.count) x.used) (encode n es)
  copied_at es xs ys e x q is st = rw (← is, q) (copied_again xs ys e (rw q at st))

  copied_booking : (es : List Entry) → Stands ws n es → (before after : List Stood) (x : Stood) → map stood_of es ≡ before ++ x ∷ after
      → deliver ws (encode n es) x.serial x.request ≡ call (drawn (copy x.count) x.used) (encode n es)
  copied_booking es st before after x q =
      let k : ℕ = length before in
      let below : k < length es = omega (arith, ap length q, length-append before (x ∷ after), length-map es stood_of) in
      let is : stood_of (get_or es k blank) ≡ x =
      sym (get_or-map stood_of es k blank)
      ∙ ap (λ (h : List Stood). get_or h k (stood_of blank)) q
      ∙ get_or-append_seam before x after (stood_of blank) in
      copied_at es (take k es) (drop (suc k) es) (get_or es k blank) x (split_at es k blank below) is st

  -- an all-zero book holds no entry
  pub empty_held : Held ws n (state (replicate n 0) [])
  empty_held = record { entries = []; holds = no_entries n; history_is = refl; stands = stands_none ws n }

  -- so what is held is kept
  kept : (st : State) → Held ws n st → Kept ws n st
  kept st hd =
      record {
        in_order = rw (← hd.history_is) (in_serial_order hd.entries 1 0 hd.stands.chain);
        bytes = rw (← hd.history_is, ← hd.holds, ← no_entries n) (redelivered hd.entries [] hd.stands);
        copies = λ before after x q. rw (← hd.holds) (copied_booking hd.entries hd.stands before after x (hd.history_is ∙ q));
        clean = λ a b. rw (← hd.history_is, ← hd.holds, length-map hd.entries stood_of) (clean_again hd.entries hd.stands);
      }

-- by the rules, so, any calls leave a book that is kept
pub all_kept : (ws : List ℕ) (n : ℕ) (os : List Operation) → OperationsFit os → Kept ws n (run ws (state (replicate n 0) []) os)
all_kept ws n os fit =
    elim (dec_le (length ws) most_words) [
      | yes a ↦ elim (dec_le n most_bytes) [
        | yes b ↦ kept ws n a b (run ws (state (replicate n 0) []) os)
            (run_held ws n a b os (state (replicate n 0) []) fit (empty_held ws n a b))
        | no b ↦ over_kept ws n (λ _ y. b y) os
      ]
      | no a ↦ over_kept ws n (λ x _. a x) os
    ]

-- and the entries that it holds are as many as the history has
module _ (ws : List ℕ) (n : ℕ) (os : List Operation) where
  abbrev last : State
  last = run ws (state (replicate n 0) []) os

  held_agrees : length ws ≤ most_words → n ≤ most_bytes → Held ws n last → length (booked ws last.book) ≡ length last.history
  held_agrees a b hd =
      rw (← hd.holds, ← hd.history_is, length-map hd.entries stood_of) (ap length (found ws n a b hd.entries hd.stands).1)

  over_agrees : (length ws ≤ most_words → n ≤ most_bytes → ⊥) → length (booked ws last.book) ≡ length last.history
  over_agrees over = rw (over_still ws n over os) (ap length (none_booked (length ws) n))

  pub run_agrees : OperationsFit os → length (booked ws last.book) ≡ length last.history
  run_agrees fit =
      elim (dec_le (length ws) most_words) [
        | yes a ↦ elim (dec_le n most_bytes) [
          | yes b ↦ held_agrees a b (run_held ws n a b os (state (replicate n 0) []) fit (empty_held ws n a b))
          | no b ↦ over_agrees (λ _ y. b y)
        ]
        | no a ↦ over_agrees (λ x _. a x)
      ]

-- ---- the answers

-- a call that meets its contract does what the rules do
one_step : (ws : List ℕ) (st st' : State) (o : Operation) → Called ws st o st' → st' ≡ next ws st o
one_step ws st st' (stated.delivering s r) c =
    let e = c.1.0 in
    ap₂ state (ap (λ (x : Call Booking). x.book) e) (c.1.1 ∙ ap (λ (x : Call Booking). after_delivering s r x.outcome st.history) e)
one_step ws st st' (stated.striking j) c =
    let e = c.1.0 in
    ap₂ state (ap (λ (x : Call ℕ). x.book) e) (c.1.1 ∙ ap (λ (x : Call ℕ). after_striking j x.outcome st.history) e)

one_run : (ws : List ℕ) (os : List Operation) (st st' : State) → Runs ws st os st' → st' ≡ run ws st os
one_run ws [] st st' e = sym e
one_run ws (o ∷ os) st st' c =
    one_run ws os c.0 st' c.1.1 ∙ ap (λ (x : State). run ws x os) (one_step ws st c.0 o c.1.0)

pub demand_3 : Demand3
demand_3 ws n os st fit runs = rw (one_run ws os (state (replicate n 0) []) st runs) (all_kept ws n os fit)
