-- A delivery, way by way: stopped by the limits, ahead, a copy or its refusal, fresh. Assumes nothing.
use mathlib.Core.Path.{◌≡◌, refl, sym, ap, ◌∙◌}
use mathlib.Core.Bool.{Bool, true, false, not}
use mathlib.Core.List.{List, [], ◌∷◌}
use mathlib.Core.Option.{some}
use Prim.Native.Nat.{ℕ, ◌+◌, ◌-◌, ◌<◌}
use native.Mathlib.Omega.{arith}
use lib.ListN.{length, get_or, drop}
use Rattle.std.proofs.Common.{Fits, w8}
use borrow.Author.Tests.{lt-ltb, le-ltb, eq-eqb, ne_eqb}
use Rattle.words.specs.Outcome.{Outcome, drawn, refused}
use Rattle.words.specs.declared.Draw.{Draw}
use Rattle.words.specs.Inner.{drew}
use Rattle.words.specs.Refusals.{Condition, ◌on◌, given, First, NoneHolds}
use Rattle.words.proofs.Exactly.{none_given}
use Rattle.bytes_le.proofs.Numbers.{Bytes}
use Rattle.kinds.specs.declared.Request.{Request}
use Rattle.kinds.specs.Kinds.{same_request}
use Rattle.kinds.proofs.Requests.{same_exactly}
use Rattle.entry.specs.declared.Entry.{Entry}
use Rattle.layout.specs.declared.Standing.{Standing}
use Rattle.entry.specs.Entry.{entry_at}
use Rattle.layout.specs.Sound.{offset}
use Rattle.opening.specs.Calls.{Call, call, booked, limits}
use Rattle.opening.specs.Inner.{IsOpen, opened}
use Rattle.layout.specs.Standing.{standing}
use Rattle.book.specs.Deliver.{Booking, copy, is_next, is_ahead, booked_at, is_reused, when_next, fresh_refusals, deliver_refusals, copied, delivery, delivering, deliver_to, deliver}
use Rattle.book.specs.Inner.{fresh_delivery}
use Rattle.opening.proofs.Opening.{past_limits, stopped, refused_opening, open_read}

-- of a serial that is not next no condition of a fresh delivery holds: no copy is refused by them
pub copy_unrefused : (cs : List Condition) → NoneHolds (when_next false cs)
copy_unrefused [] = tt
copy_unrefused (c ∷ cs) = (refl, copy_unrefused cs)

-- of one that is next all are asked
pub next_asked : (cs : List Condition) → when_next true cs ≡ cs
next_asked [] = refl
next_asked (c ∷ cs) = ap (λ (ds : List Condition). c ∷ ds) (next_asked cs)

module _ (ws b : List ℕ) (s : ℕ) (r : Request) where
  abbrev es : List Entry
  es = booked ws b

  abbrev news : List Condition
  news = fresh_refusals (drop (standing (booked ws b)).place ws) b (standing (booked ws b)).end r

  -- the conditions after the limits
  abbrev own : List Condition
  own = 13 on is_ahead (length (booked ws b)) s ∷ 14 on is_reused (booked ws b) s r ∷ when_next (is_next (length (booked ws b)) s) news

  pub deliver_stopped : (n : ℕ) → First n (limits ws b) → call (refused n) b ≡ deliver ws b s r
  unfolding deliver deliver_to deliver_refusals
  deliver_stopped n f = sym (ap (λ (o : Outcome Booking). delivering o b (standing es) r) (stopped ws b own (delivery ws es s r) n f))

  module _ (h : NoneHolds (limits ws b)) where
    later : Outcome Booking → Call Booking
    later o = delivering (given own o) b (standing es) r

    past : deliver ws b s r ≡ later (delivery ws es s r)
    unfolding deliver deliver_to deliver_refusals later
    past = ap (λ (o : Outcome Booking). delivering o b (standing es) r) (past_limits ws b own (delivery ws es s r) h)

    pub deliver_zero : s ≡ 0 → call (refused 13) b ≡ deliver ws b s r
    unfolding later
    deliver_zero z = sym (past ∙ go)
      where
        go : later (delivery ws es s r) ≡ call (refused 13) b
        go = rw (eq-eqb s 0 z)

    module _ (nz : s ≡ 0 → ⊥) where
      pub deliver_ahead : length es + 1 < s → call (refused 13) b ≡ deliver ws b s r
      unfolding later
      deliver_ahead a = sym (past ∙ go)
        where
          go : later (delivery ws es s r) ≡ call (refused 13) b
          go = rw (ne_eqb s 0 nz, lt-ltb (length es + 1) s a)

      -- a copy, or 14
      pub deliver_copy : s < length es + 1 → call (given (14 on not (same_request (booked_at es s).request r) ∷ []) (copied (booked_at es s))) b ≡ deliver ws b s r
      unfolding later delivery
      deliver_copy l = sym (past ∙ go)
        where
          either : (x : Bool) → delivering (given (14 on x ∷ when_next false news) (copied (booked_at es s))) b (standing es) r
              ≡ call (given (14 on x ∷ []) (copied (booked_at es s))) b
          either true = refl
          either false = ap (λ (o : Outcome Booking). delivering o b (standing es) r) (none_given (when_next false news) (copied (booked_at es s)) (copy_unrefused news))

          go : later (delivery ws es s r) ≡ call (given (14 on not (same_request (booked_at es s).request r) ∷ []) (copied (booked_at es s))) b
          go =
              let old : is_next (length es) s ≡ false = ne_eqb s (length es + 1) (λ z. omega arith) in
              ap (λ (x : Bool). delivering (given (13 on is_ahead (length es) s ∷ 14 on is_reused es s r ∷ when_next x news) (delivery ws es s r)) b (standing es) r) old
              ∙ rw (ne_eqb s 0 nz, le-ltb (length es + 1) s (omega arith), lt-ltb s (length es + 1) l, old)
              (either (not (same_request (booked_at es s).request r)))

    -- fresh: by how the book stands and nothing more
    pub deliver_fresh : s ≡ length es + 1 → fresh_delivery ws b (standing es) r ≡ deliver ws b s r
    unfolding later delivery fresh_delivery
    deliver_fresh e = sym (past ∙ go)
      where
        go : later (delivery ws es s r) ≡ fresh_delivery ws b (standing es) r
        go =
            let next : is_next (length es) s ≡ true = eq-eqb s (length es + 1) e in
            let asked : when_next (is_next (length es) s) news ≡ news = ap (λ (x : Bool). when_next x news) next ∙ next_asked news in
            ap (λ (cs : List Condition). delivering (given (13 on is_ahead (length es) s ∷ 14 on is_reused es s r ∷ cs) (delivery ws es s r)) b (standing es) r) asked
            ∙ rw (ne_eqb s 0 (λ z. omega arith), le-ltb (length es + 1) s (omega arith), le-ltb s (length es + 1) (omega arith), next)

-- ---- what an entry answers

-- a request is the same as one exactly where they are equal
pub copy_equal : (e : Entry) (r : Request) (d : Draw) → e.request ≡ r → d ≡ drew e.count e.used
    → drawn (copy d.count) d.used ≡ given (14 on not (same_request e.request r) ∷ []) (copied e)
copy_equal e r d is ed = rw ((same_exactly e.request r).1 is) (ap (λ (x : Draw). drawn (copy x.count) x.used) ed)

pub copy_other : (e : Entry) (r : Request) → (e.request ≡ r → ⊥) → refused 14 ≡ given (14 on not (same_request e.request r) ∷ []) (copied e)
copy_other e r other = go (same_request e.request r) refl
  where
    go : (z : Bool) → same_request e.request r ≡ z → refused 14 ≡ given (14 on not z ∷ []) (copied e)
    go true s = absurd (other ((same_exactly e.request r).0 s))
    go false s = refl

-- ---- by what the call began with

module _ (ws b : List ℕ) (s : ℕ) (r : Request) where
  pub deliver_refused : (n : ℕ) → refused n ≡ opened ws b → call (refused n) b ≡ deliver ws b s r
  deliver_refused n e = deliver_stopped ws b s r n (refused_opening ws b n e)

  module _ (st : Standing) (o : IsOpen ws b st) where
    number : length (booked ws b) ≡ st.entries
    number = ap (λ (x : Standing). x.entries) o.1

    pub deliver_none : s ≡ 0 → call (refused 13) b ≡ deliver ws b s r
    deliver_none z = deliver_zero ws b s r o.0 z

    pub deliver_over : st.entries + 1 < s → call (refused 13) b ≡ deliver ws b s r
    deliver_over a = deliver_ahead ws b s r o.0 (λ z. omega arith) (omega (arith, number))

    -- the entry of the serial s gives a copy's answer
    pub copy_answers : ((i : ℕ) → Fits w8 (get_or b i 0)) → (s ≡ 0 → ⊥) → s < st.entries + 1 → (i : ℕ) → i ≡ offset b (s - 1)
        → (e : Entry) → entry_at b i ≡ some e → (x : Outcome Booking)
        → x ≡ given (14 on not (same_request e.request r) ∷ []) (copied e) → call x b ≡ deliver ws b s r
    copy_answers fits nz l i ei e here x ex =
        let by : Bytes b = λ k. (fits k).fits in
        let is : e ≡ booked_at (booked ws b) s = open_read (length ws) b by o.0 (s - 1) (omega (arith, nz, number)) i e ei here in
        ap (λ (y : Outcome Booking). call y b) (ex ∙ ap (λ (y : Entry). given (14 on not (same_request y.request r) ∷ []) (copied y)) is)
        ∙ deliver_copy ws b s r o.0 nz (omega (arith, number))

    -- a serial that is next is answered by how the book stands
    pub fresh_answers : s ≡ st.entries + 1 → (c : Call Booking) → c ≡ fresh_delivery ws b st r → c ≡ deliver ws b s r
    fresh_answers es c ec =
        ec
        ∙ ap (λ (x : Standing). fresh_delivery ws b x r) (sym o.1)
        ∙ deliver_fresh ws b s r o.0 (es ∙ ap (λ (x : Standing). x.entries + 1) (sym o.1))

pub ruleset deliveries = (deliver_refused, deliver_none, deliver_over, copy_answers, fresh_answers)
