-- A fresh delivery by the draw that it makes: of a draw's answer and the room, what the list of conditions gives. Assumes nothing.
use mathlib.Core.Path.{◌≡◌, refl, sym, ap, ◌∙◌, subst}
use mathlib.Core.Bool.{Bool, true, false, cond, ◌&&◌, true≢false}
use mathlib.Core.List.{List, ◌∷◌, ◌++◌}
use mathlib.Core.Logic.{◌⊎◌, inl, inr}
use Prim.Native.Nat.{ℕ, ◌+◌, ◌-◌, ◌<◌, ◌≤◌}
use native.Mathlib.Omega.{arith}
use lib.Dec.{ltb}
use lib.ListN.{length, take, drop, length-drop}
use borrow.Author.Tests.{lt-ltb, le-ltb}
use lib.Seq.{sets}
use Rattle.std.specs.Prelude.{Result, Ok, Err}
use Rattle.std.specs.Result.{MatchResult, IsErrAnd}
use Rattle.words.specs.Words.{most_words, too_long}
use Rattle.words.specs.Outcome.{Outcome, drawn, refused}
use Rattle.words.specs.declared.Draw.{Draw}
use Rattle.words.specs.Paper.{told}
use Rattle.words.specs.Refusals.{Condition, ◌on◌, given, First, NoneHolds}
use Rattle.words.specs.Draw.{shorts, endings}
use Rattle.words.specs.Inner.{is_short}
use Rattle.words.proofs.Tape.{limit_within, lent_from}
use Rattle.words.proofs.Exactly.{first_given, first_before, first_split, given_append, none_given}
use Rattle.words.proofs.Short.{none_ended, first_ended}
use Rattle.words.proofs.Drawing.{accepted_passed, accepted_reading}
use Rattle.kinds.specs.declared.Request.{Request}
use Rattle.kinds.specs.Kinds.{length_of}
use Rattle.draws.specs.Request.{drawing, parameter_refusals, reading_of, draw_of}
use Rattle.draws.proofs.Laws.{request_exactly, request_parameter}
use Rattle.entry.specs.declared.Entry.{Entry}
use Rattle.layout.specs.declared.Standing.{Standing}
use Rattle.entry.specs.Entry.{booking, entry_bytes}
use Rattle.opening.specs.Calls.{call}
use Rattle.opening.specs.Inner.{IsOpen}
use Rattle.opening.proofs.Opening.{open_tape}
use Rattle.book.specs.Deliver.{Booking, fresh, is_full, fresh_refusals, freshly, delivering}
use Rattle.book.specs.Inner.{fresh_delivery}

-- the words vs from the book's place on, and a book that ends at `end`
module _ (vs b : List ℕ) (end : ℕ) (r : Request) (short : length vs ≤ most_words) where
  abbrev o : Outcome ℕ
  o = reading_of r vs

  -- the conditions after the parameters'
  abbrev lasts : List Condition
  lasts = 15 on is_full b end r ∷ endings shorts (reading_of r vs)

  -- where no parameter is refused, these decide
  passed : NoneHolds (parameter_refusals r) → given (fresh_refusals vs b end r) (freshly o) ≡ given lasts (freshly o)
  unfolding fresh_refusals
  passed h = given_append (parameter_refusals r) lasts (freshly o) ∙ none_given (parameter_refusals r) (given lasts (freshly o)) h

  module _ (c u : ℕ) (e : draw_of r vs ≡ drawn c u) where
    none_wrong : NoneHolds (parameter_refusals r)
    none_wrong = accepted_passed (drawing r) vs c u e

    it_drew : reading_of r vs ≡ drawn c u
    it_drew = accepted_reading (drawing r) vs c u e

    pub drew_full : is_full b end r ≡ true → given (fresh_refusals vs b end r) (freshly o) ≡ refused 15
    drew_full f = passed none_wrong ∙ rw f

    pub drew_room : is_full b end r ≡ false → given (fresh_refusals vs b end r) (freshly o) ≡ drawn (fresh c) u
    drew_room f = passed none_wrong ∙ rw (f, it_drew) (none_given (endings shorts (drawn c u)) (drawn (fresh c) u) (none_ended shorts c u))

  -- a refused draw's refusal, with 15 before those of a tape that is too short
  abbrev ordered : ℕ → ℕ
  ordered n = cond (is_full b end r && is_short n) 15 n

  by_parameter : (n : ℕ) → First n (parameter_refusals r) → given (fresh_refusals vs b end r) (freshly o) ≡ refused (ordered n)
  unfolding fresh_refusals
  by_parameter n f =
      first_given (parameter_refusals r ++ lasts) (freshly o) n (first_before (parameter_refusals r) lasts n f)
      ∙ ap refused (sym (rw (request_parameter r n f) (no (is_full b end r))))
    where
      no : (f : Bool) → cond (f && false) 15 n ≡ n
      no true = refl
      no false = refl

  by_short : (n : ℕ) → NoneHolds (parameter_refusals r) → First n (endings shorts (reading_of r vs))
      → given (fresh_refusals vs b end r) (freshly o) ≡ refused (ordered n)
  by_short n h f =
      let s : is_short n ≡ true = (first_ended shorts (reading_of r vs) n f).0 in
      passed h
      ∙ rw (first_given (endings shorts (reading_of r vs)) (freshly o) n f, s) (either (is_full b end r))
    where
      either : (f : Bool) → ◌≡◌ {A = Outcome Booking} (cond f (refused 15) (refused n)) (refused (cond (f && true) 15 n))
      either true = refl
      either false = refl

  pub drew_refused : (n : ℕ) → draw_of r vs ≡ refused n → given (fresh_refusals vs b end r) (freshly o) ≡ refused (ordered n)
  drew_refused n e = go ((request_exactly r vs n).0 e)
    where
      last : First n (parameter_refusals r) ⊎ (NoneHolds (parameter_refusals r) × First n (endings shorts (reading_of r vs)))
          → given (fresh_refusals vs b end r) (freshly o) ≡ refused (ordered n)
      last (inl f) = by_parameter n f
      last (inr x) = by_short n x.0 x.1

      go : First n (1 on too_long vs ∷ parameter_refusals r ++ endings shorts (reading_of r vs))
          → given (fresh_refusals vs b end r) (freshly o) ≡ refused (ordered n)
      go (inl h) = absurd (true≢false (sym h.0 ∙ limit_within vs short))
      go (inr h) = last (first_split (parameter_refusals r) (endings shorts (reading_of r vs)) n h.1)

-- ---- a fresh delivery, way by way

module _ (ws b : List ℕ) (st : Standing) (r : Request) (short : length ws ≤ most_words) where
  -- the words from the book's place on
  abbrev vs : List ℕ
  vs = drop st.place ws

  left_short : length vs ≤ most_words
  left_short = omega (arith, length-drop st.place ws)

  pub fresh_refused : (k m : ℕ) → refused k ≡ draw_of r (drop st.place ws) → m ≡ cond (is_full b st.end r && is_short k) 15 k
      → call (refused m) b ≡ fresh_delivery ws b st r
  unfolding fresh_delivery
  fresh_refused k m e em =
      sym
      (ap (λ (x : Outcome Booking). delivering x b st r) (drew_refused vs b st.end r left_short k (sym e))
      ∙ ap (λ (x : ℕ). call (refused x) b) (sym em))

  pub fresh_full : (d : Draw) → told d ≡ draw_of r (drop st.place ws) → is_full b st.end r ≡ true → call (refused 15) b ≡ fresh_delivery ws b st r
  unfolding fresh_delivery
  fresh_full d e f = sym (ap (λ (x : Outcome Booking). delivering x b st r) (drew_full vs b st.end r left_short d.count d.used (sym e) f))

  -- booked as the entry x
  pub fresh_booked : (d : Draw) (x : Entry) (b' : List ℕ) → told d ≡ draw_of r (drop st.place ws) → is_full b st.end r ≡ false
      → x ≡ booking r (st.entries + 1) st.place d.used d.count → b' ≡ sets b st.end (entry_bytes x)
      → call (drawn (fresh d.count) d.used) b' ≡ fresh_delivery ws b st r
  unfolding fresh_delivery
  fresh_booked d x b' e f ex eb =
      ap (call (drawn (fresh d.count) d.used)) (eb ∙ ap (λ (y : Entry). sets b st.end (entry_bytes y)) ex)
      ∙ sym (ap (λ (y : Outcome Booking). delivering y b st r) (drew_room vs b st.end r left_short d.count d.used (sym e) f))

-- the same as the code has it: the book stands open, n is the request's length, and the draw's answer is that over the tape as it was lent

module _ (ws b : List ℕ) (st : Standing) (r : Request) (stands : IsOpen ws b st) (n : ℕ) (en : n ≡ length_of r) where
  few : length ws ≤ most_words
  few = open_tape ws b stands.0

  lent : (x : Outcome ℕ) → x ≡ draw_of r (take (length ws - st.place) (drop st.place ws)) → x ≡ draw_of r (drop st.place ws)
  lent x e = e ∙ ap (draw_of r) (lent_from ws st.place)

  full : is_full b st.end r ≡ ltb (length b - st.end) n
  unfolding is_full
  full = ap (ltb (length b - st.end)) (sym en)

  pub lent_refused : (k m : ℕ) → refused k ≡ draw_of r (take (length ws - st.place) (drop st.place ws))
      → m ≡ cond (ltb (length b - st.end) n && is_short k) 15 k → call (refused m) b ≡ fresh_delivery ws b st r
  lent_refused k m e em =
      fresh_refused ws b st r few k m (lent (refused k) e) (em ∙ ap (λ (t : Bool). cond (t && is_short k) 15 k) (sym full))

  module _ (d : Draw) (e : told d ≡ draw_of r (take (length ws - st.place) (drop st.place ws))) where
    pub lent_full : length b - st.end < n → call (refused 15) b ≡ fresh_delivery ws b st r
    lent_full f = fresh_full ws b st r few d (lent (told d) e) (full ∙ lt-ltb (length b - st.end) n f)

    -- booked as the entry x
    pub lent_booked : n ≤ length b - st.end → (x : Entry) → x ≡ booking r (st.entries + 1) st.place d.used d.count
        → (c : List ℕ) → c ≡ sets b st.end (entry_bytes x) → call (drawn (fresh d.count) d.used) c ≡ fresh_delivery ws b st r
    lent_booked f x ex c ec =
        fresh_booked ws b st r few d x c (lent (told d) e) (full ∙ le-ltb (length b - st.end) n f) ex ec

-- the entry of a request is as long as the request says
pub entry_size : (x : Entry) (r : Request) (s p u c : ℕ) → x ≡ booking r s p u c → length_of x.request ≡ length_of r
entry_size x r s p u c e = ap (λ (y : Entry). length_of y.request) e

pub ruleset freshes = (lent_refused, lent_full, lent_booked, entry_size)

-- ---- an answer whose refusal was mapped by Q

module _ {X E : Type 0} (Q : E → E → Type 0) where
  no_err : (P : E → Type 0) (m : Result X E) (x : X) → m ≡ Ok x → IsErrAnd m P → ⊥
  no_err P (Ok v) x e q = q
  no_err P (Err y) x e q = let z : ◌≡◌ {A = ℕ} 0 1 = cc in absurd (omega arith)

  at_err : (P : E → Type 0) (m : Result X E) (y : E) → m ≡ Err y → IsErrAnd m P → P y
  at_err P (Ok v) y e q = let z : ◌≡◌ {A = ℕ} 0 1 = cc in absurd (omega arith)
  at_err P (Err x) y e q = let same : x ≡ y = cc in subst P same q

  pub mapped_ok : (r m : Result X E) (x : X) → m ≡ Ok x → MatchResult r (λ v. m ≡ Ok v) (λ e. IsErrAnd m (Q e)) → r ≡ Ok x
  mapped_ok (Ok v) m x e q = cc
  mapped_ok (Err v) m x e q = absurd (no_err (Q v) m x e q)

  pub mapped_err : (r m : Result X E) (y : E) → m ≡ Err y → MatchResult r (λ v. m ≡ Ok v) (λ e. IsErrAnd m (Q e)) → (e : E) × (r ≡ Err e) × Q e y
  mapped_err (Ok v) m y e q = let z : ◌≡◌ {A = ℕ} 0 1 = cc in absurd (omega arith)
  mapped_err (Err v) m y e q = (v, refl, at_err (Q v) m y e q)
