-- A redraw, way by way, and a turn of its loop. Assumes nothing.
use mathlib.Core.Path.{◌≡◌, refl, sym, ap, ◌∙◌}
use mathlib.Core.Bool.{Bool, true, false, cond, not, ◌&&◌}
use mathlib.Core.List.{List, [], ◌∷◌}
use mathlib.Core.Logic.{inl, inr}
use mathlib.Core.Option.{Option, none, some}
use Prim.Native.Nat.{ℕ, zero, suc, ◌-◌, ◌<◌, ◌≤◌, suc-le-suc}
use native.Mathlib.Nat.{zero-lt-suc, le_of_suc-le-suc, not-suc-le-zero}
use native.Mathlib.Omega.{arith}
use lib.Dec.{eqb}
use lib.ListN.{length, get_or, take, drop}
use borrow.Author.Tests.{ne_eqb}
use Rattle.words.specs.Outcome.{Outcome, drawn, refused}
use Rattle.words.specs.declared.Draw.{Draw}
use Rattle.words.specs.declared.Refusal.{Refusal}
use Rattle.words.specs.Paper.{Answer, paper, told, number_of}
use Rattle.words.specs.Inner.{drew}
use Rattle.words.proofs.Tape.{lent_from}
use Rattle.std.specs.Prelude.{Ok, Err, ⊤}
use Rattle.std.specs.Result.{result_eq}
use Rattle.std.proofs.Common.{Fits, w8}
use Rattle.words.specs.Refusals.{Condition, ◌on◌, given, First, NoneHolds}
use Rattle.bytes_le.proofs.Numbers.{Bytes}
use Rattle.draws.specs.Request.{draw_of}
use Rattle.entry.specs.declared.Entry.{Entry}
use Rattle.entry.specs.Entry.{blank}
use Rattle.layout.specs.Inner.{entries_from}
use Rattle.opening.specs.Calls.{booked, limits}
use Rattle.layout.specs.Book.{is_none}
use Rattle.redraws.specs.Redraw.{is_drawn, agrees, lowest, redraw_refusals, Redrawing, naming, redraw_of, redraw}
use Rattle.opening.specs.Inner.{IsOpen, opened}
use Rattle.layout.specs.declared.Standing.{Standing}
use Rattle.opening.proofs.Opening.{past_limits, stopped, refused_opening, open_place, stands_all}

-- ---- the limits' refusals are not 17

limit_number : (ws b : List ℕ) (n : ℕ) → First n (limits ws b) → n < 17
limit_number ws b n (inl h) = omega (arith, h.1)
limit_number ws b n (inr h) = elim h.1 [
  | inl g ↦ omega (arith, g.1)
  | inr g ↦ elim g.1 [
    | inl k ↦ omega (arith, k.1)
    | inr k ↦ absurd k.1
  ]
]

module _ (ws b : List ℕ) where
  abbrev es : List Entry
  es = booked ws b

  -- the condition after the limits
  abbrev own : List Condition
  own = 17 on not (is_none (lowest ws (booked ws b))) ∷ []

  pub redraw_stopped : (n : ℕ) → First n (limits ws b) → record { outcome = refused n; named = none } ≡ redraw ws b
  unfolding redraw redraw_of redraw_refusals
  redraw_stopped n f =
      sym
      (ap (λ (o : Outcome ℕ). naming o (lowest ws es)) (stopped ws b own (drawn (length es) 0) n f)
      ∙ rw (ne_eqb n 17 (λ z. omega (arith, limit_number ws b n f))))

  module _ (h : NoneHolds (limits ws b)) where
    later : Option ℕ → Redrawing
    later x = naming (given (17 on not (is_none x) ∷ []) (drawn (length es) 0)) x

    past : redraw ws b ≡ later (lowest ws es)
    unfolding redraw redraw_of redraw_refusals later
    past = ap (λ (o : Outcome ℕ). naming o (lowest ws es)) (past_limits ws b own (drawn (length es) 0) h)

    pub redraw_agrees : lowest ws es ≡ none → record { outcome = drawn (length es) 0; named = none } ≡ redraw ws b
    unfolding later
    redraw_agrees e = sym (past ∙ ap later e)

    pub redraw_differs : (s : ℕ) → lowest ws es ≡ some s → record { outcome = refused 17; named = some s } ≡ redraw ws b
    unfolding later
    redraw_differs s e = sym (past ∙ ap later e)

-- ---- a turn over the entries that are left

-- each has its place on a tape of t words
unfoldable pub OnTape : ℕ → List Entry → Type 0
OnTape t [] = ⊤
OnTape t (e ∷ es) = (e.place ≤ t) × OnTape t es

on_tape : (t : ℕ) (es : List Entry) (d : Entry) → ((i : ℕ) → i < length es → (get_or es i d).place ≤ t) → OnTape t es
unfolding OnTape
on_tape t [] d h = tt
on_tape t (e ∷ es) d h = (h 0 (omega arith), on_tape t es d (λ i l. h (suc i) (omega arith)))

module _ (s : List Entry) (e : Entry) (es : List Entry) (is : s ≡ e ∷ es) where
  pub on_first : (t : ℕ) → OnTape t s → (e.place ≤ t) × OnTape t es
  unfolding OnTape
  on_first t h = rw is at h

  at_front : (ws : List ℕ) → lowest ws s ≡ cond (agrees ws e) (lowest ws es) (some e.serial)
  unfolding lowest
  at_front ws = ap (lowest ws) is

-- ---- the serial that is named: its entry does not agree, and every entry before it does

pub record FirstDiffering (ws : List ℕ) (es : List Entry) (d : Entry) (s : ℕ) : Type 0 where
  pub index : ℕ
  pub below : index < length es
  pub named : (get_or es index d).serial ≡ s
  pub differs : agrees ws (get_or es index d) ≡ false
  pub earlier : (k : ℕ) → k < index → agrees ws (get_or es k d) ≡ true

pub lowest_first : (ws : List ℕ) (es : List Entry) (d : Entry) (s : ℕ) → lowest ws es ≡ some s → FirstDiffering ws es d s
unfolding lowest
lowest_first ws [] d s e = let z : ◌≡◌ {A = ℕ} 0 1 = cc in absurd (omega arith)
lowest_first ws (x ∷ es) d s e = go (lowest_first ws es d s) (agrees ws x) refl e
  where
    before : (i : ℕ) → agrees ws x ≡ true → ((k : ℕ) → k < i → agrees ws (get_or es k d) ≡ true)
        → (k : ℕ) → k < suc i → agrees ws (get_or (x ∷ es) k d) ≡ true
    before i t h zero l = t
    before i t h (suc k) l = h k (le_of_suc-le-suc l)

    go : (lowest ws es ≡ some s → FirstDiffering ws es d s)
        → (b : Bool) → agrees ws x ≡ b → cond b (lowest ws es) (some x.serial) ≡ some s → FirstDiffering ws (x ∷ es) d s
    go rest true t q =
        let r = rest q in
        record { index = suc r.index; below = suc-le-suc r.below; named = r.named; differs = r.differs; earlier = before r.index t r.earlier }
    go rest false t q = record { index = 0; below = zero-lt-suc (length es); named = cc; differs = t; earlier = λ k l. absurd (not-suc-le-zero l) }

-- ---- one entry, by what it drew from the tape as it was lent

module _ (ws : List ℕ) (e : Entry) where
  lent : (x : Outcome ℕ) → x ≡ draw_of e.request (take (length ws - e.place) (drop e.place ws)) → agrees ws e ≡ is_drawn e.count e.used x
  unfolding agrees
  lent x h = ap (is_drawn e.count e.used) (sym (h ∙ ap (draw_of e.request) (lent_from ws e.place)))

  -- by the derived `==` of an answer
  pub agree_equal : (D : Draw → Draw → Bool) (E : Refusal → Refusal → Bool) → ((a b : Draw) → D a b ≡ (eqb a.count b.count && eqb a.used b.used)) → (b : Draw) → b ≡ drew e.count e.used
      → (a : Answer) → paper a ≡ draw_of e.request (take (length ws - e.place) (drop e.place ws)) → result_eq D E a (Ok b) ≡ agrees ws e
  agree_equal D E same b is (Ok d) h = same d b ∙ ap (λ (x : Draw). eqb d.count x.count && eqb d.used x.used) is ∙ sym (lent (told d) h)
  agree_equal D E same b is (Err x) h = sym (lent (refused (number_of x)) h)

-- ---- a turn over the bytes: what was read at `at`, and whether it agrees

module _ (ws b : List ℕ) where
  pub redraw_refused : (n : ℕ) → refused n ≡ opened ws b → record { outcome = refused n; named = none } ≡ redraw ws b
  redraw_refused n e = redraw_stopped ws b n (refused_opening ws b n e)

  module _ (st : Standing) (o : IsOpen ws b st) where
    number : length (booked ws b) ≡ st.entries
    number = ap (λ (x : Standing). x.entries) o.1

    -- the entries that are left at first are all
    pub redraw_starts : ((i : ℕ) → Fits w8 (get_or b i 0)) → (s : List Entry) → s ≡ entries_from st.entries b 0
        → OnTape (length ws) s × (lowest ws s ≡ lowest ws (booked ws b))
    redraw_starts fits s e =
        let by : Bytes b = λ i. (fits i).fits in
        let is : s ≡ booked ws b = e ∙ (stands_all ws b st fits o).1 in
        (rw is (on_tape (length ws) (booked ws b) blank (open_place (length ws) b by o.0)), ap (lowest ws) is)

    module _ (s : List Entry) (left : lowest ws s ≡ lowest ws (booked ws b)) where
      pub goes_on : (e : Entry) (es : List Entry) → s ≡ e ∷ es → (z : Bool) → z ≡ agrees ws e → z ≡ true → lowest ws es ≡ lowest ws (booked ws b)
      goes_on e es is z ez y = sym (at_front s e es is ws ∙ rw (← ez, y)) ∙ left

      pub differs_here : (e : Entry) (es : List Entry) → s ≡ e ∷ es → (z : Bool) → z ≡ agrees ws e → z ≡ false
          → record { outcome = refused 17; named = some e.serial } ≡ redraw ws b
      differs_here e es is z ez n = redraw_differs ws b o.0 e.serial (sym left ∙ at_front s e es is ws ∙ rw (← ez, n))

      pub all_agree : s ≡ [] → record { outcome = drawn st.entries 0; named = none } ≡ redraw ws b
      unfolding lowest
      all_agree is =
          ap (λ (k : ℕ). record { outcome = drawn k 0; named = none }) (sym number)
          ∙ redraw_agrees ws b o.0 (sym left ∙ ap (lowest ws) is)

pub ruleset turns = (redraw_refused, on_first, goes_on, all_agree)
