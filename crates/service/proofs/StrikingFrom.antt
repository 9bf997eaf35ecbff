-- A strike from a number of entries, way by way. Assumes nothing.
use mathlib.Core.Path.{◌≡◌, refl, sym, ap, ap₂, subst, ◌∙◌}
use mathlib.Core.Bool.{Bool, true, false, cond, ◌&&◌, and-false, or-true}
use mathlib.Core.List.{List, [], ◌∷◌, ◌++◌}
use mathlib.Core.Logic.{◌⊎◌, inl, inr}
use Prim.Native.Nat.{ℕ, ◌-◌, ◌≤◌, ◌<◌}
use native.Mathlib.Omega.{arith}
use lib.Dec.{eqb, ltb}
use lib.ListN.{length, drop}
use lib.Seq.{take_all}
use borrow.Author.Tests.{eq-eqb, ne_eqb, eqb-true, lt-ltb, le-ltb, ltb-true, ltb-false, not-false}
use Rattle.std.proofs.Common.{Result, Ok, Err}
use Rattle.words.specs.Outcome.{Outcome, drawn, refused}
use Rattle.words.specs.declared.Refusal.{Refusal}
use Rattle.words.specs.Paper.{number_of}
use Rattle.words.specs.Refusals.{Condition, ◌on◌, given, First, NoneHolds}
use Rattle.words.proofs.Exactly.{exactly, first_split, none_before, drawn_exactly}
use Rattle.words.proofs.Reading.{refused_not_drawn}
use Rattle.bytes_le.specs.Zeros.{wiped}
use Rattle.bytes_le.proofs.Zeros.{wipe_done}
use Rattle.entry.specs.declared.Entry.{Entry}
use Rattle.layout.specs.Book.{length_all}
use Rattle.layout.proofs.Decoding.{by-test}
use Rattle.opening.specs.Calls.{Call, call, booked, limits}
use Rattle.opening.proofs.Opening.{past_limits, stopped}
use Rattle.book.specs.Strike.{strike_refusals, left_by, after_strike, strike_in, strike, struck}
use Rattle.book.proofs.Striking.{strike_stopped, strike_many}
use Rattle.writing.specs.Writing.{Writes}
use Rattle.answer_lines.specs.Answers.{strike_line, kept_line, refusal_line}
use Rattle.service.specs.StrikeFrom.{Striking, left, kept, strike_from_refusals, by_entries, strike_from_line, strike_from}
use Rattle.service.specs.Service.{Service, serving, is_struck, striking, striking_from, struck_from, Meets}

-- ---- a strike that changes nothing

-- where j is 0 all the entries are left
pub strike_unchanged : (b : List ℕ) (o : Outcome ℕ) (es : List Entry) (j : ℕ) → is_struck j o ≡ false → after_strike o b es j ≡ b
strike_unchanged b (drawn n u) es j e =
    let z : j ≡ 0 = eqb-true j 0 (not-false (eqb j 0) e) in
    let t : left_by j es ≡ es = rw z (take_all (length es - 0) es (omega arith)) in
    sym (wipe_done b _ (length_all es) (length_all es) (omega arith) (omega arith) (ap (λ (x : List Entry). wiped (length_all x) (length_all es) b) (sym t)))
strike_unchanged b (refused n) es j e = refl

-- a strike of 0 is such a one
pub zero_keeps : (ws b : List ℕ) → (strike ws b 0).book ≡ b
unfolding strike strike_in
zero_keeps ws b = let o : Outcome ℕ = (strike ws b 0).outcome in strike_unchanged b o (booked ws b) 0 (unstruck o)
  where
    unstruck : (o : Outcome ℕ) → is_struck 0 o ≡ false
    unstruck (drawn n u) = refl
    unstruck (refused n) = refl

-- ---- where the entries stand that it names

-- two outcomes by the same conditions are refused alike, or neither is
both_given : {A B : Type 0} (P : Outcome A → Outcome B → Type 0) (cs : List Condition) (x : Outcome A) (y : Outcome B)
    → ((n : ℕ) → P (refused n) (refused n)) → P x y → P (given cs x) (given cs y)
both_given P [] x y r d = d
both_given {A} {B} P (c ∷ cs) x y r d = go c.holds (both_given P cs x y r d)
  where
    go : (t : Bool) → P (given cs x) (given cs y) → P (cond t (refused c.number) (given cs x)) (cond t (refused c.number) (given cs y))
    go true p = r c.number
    go false p = p

-- it is a strike
pub from_standing : (ws b : List ℕ) (j m : ℕ) → length (booked ws b) ≡ m → struck_from ws b j m ≡ striking j (strike ws b j)
unfolding strike_from strike_from_refusals strike strike_in strike_refusals
from_standing ws b j m e =
    let n : ℕ = length (booked ws b) in
    rw (← e, eq-eqb n n refl)
    (both_given (λ (o : Outcome Striking) (p : Outcome ℕ).
    serving (strike_from_line o) (strike ws b j).book (is_struck j o) ≡ serving (strike_line p) (strike ws b j).book (is_struck j p))
    (limits ws b ++ (16 on ltb n j ∷ [])) (drawn (left (n - j)) 0) (drawn (n - j) 0) (λ k. refl) refl)

-- ---- as the code goes: by what a strike of 0 answers, and then by the entries

module _ (ws b : List ℕ) where
  abbrev standing : ℕ
  standing = length (booked ws b)

  -- an accepted strike: no limit holds, and as many stand
  pub strike_told : (j n u : ℕ) → (strike ws b j).outcome ≡ drawn n u → NoneHolds (limits ws b) × (j ≤ standing) × (drawn (standing - j) 0 ≡ drawn n u)
  unfolding strike strike_in strike_refusals
  strike_told j n u e =
      let many : List Condition = 16 on ltb standing j ∷ [] in
      let x = (drawn_exactly (limits ws b ++ many) (drawn (standing - j) 0) n u).0 e in
      (none_before (limits ws b) many x.0, ltb-false standing j x.0.1.1.1.0, x.1)

  -- of 0 entries, it tells how many stand
  zero_told : (n : ℕ) → (strike ws b 0).outcome ≡ drawn n 0 → NoneHolds (limits ws b) × (standing ≡ n)
  zero_told n e =
      let x = strike_told 0 n 0 e in
      let d : standing - 0 ≡ n = cc x.2 in
      (x.0, omega arith)

  abbrev none_more : List Condition
  none_more = 16 on ltb standing 0 ∷ []

  -- else a limit of tape or book
  zero_refused : (n : ℕ) → (strike ws b 0).outcome ≡ refused n → First n (limits ws b)
  unfolding strike strike_in strike_refusals
  zero_refused n e =
      go (first_split (limits ws b) none_more n
      ((exactly (limits ws b ++ none_more) (drawn (standing - 0) 0) (λ k x. refused_not_drawn k (standing - 0) 0 (sym x)) n).0 e))
    where
      go : First n (limits ws b) ⊎ (NoneHolds (limits ws b) × First n none_more) → First n (limits ws b)
      go (inl f) = f
      go (inr (h, inl f)) = let z = f.0 in absurd (omega (arith, ltb-true standing 0 z))
      go (inr (h, inr f)) = absurd f.1

  module _ (j m : ℕ) where
    -- the conditions after the limits
    abbrev own : List Condition
    own = drop 3 (strike_from_refusals ws b j m)

    abbrev came : Outcome Striking
    came = drawn (by_entries standing j m) 0

    -- what it comes to, with a book as it was: a strike would leave it so, or another number stands
    unmoved : (o : Outcome Striking) → (strike_from ws b j m).outcome ≡ o → (standing ≡ m → (strike ws b j).book ≡ b) → strike_from ws b j m ≡ call o b
    unfolding strike_from
    unmoved o e f =
        ap₂ call e (by-test (λ (x : List ℕ). x ≡ b) (eqb standing m) (λ t. f (eqb-true standing m t)) (λ _. refl))

    -- a limit stops it, as it does a strike
    from_stopped : (n : ℕ) → First n (limits ws b) → strike_from ws b j m ≡ call (refused n) b
    unfolding strike_from strike_from_refusals
    from_stopped n f = unmoved (refused n) (stopped ws b own came n f) (λ _. ap (λ (x : Call ℕ). x.book) (sym (strike_stopped ws b j n f)))

    -- past the limits
    module _ (h : NoneHolds (limits ws b)) where
      from_many : m < j → strike_from ws b j m ≡ call (refused 16) b
      unfolding strike_from strike_from_refusals
      from_many l =
          unmoved (refused 16) (past_limits ws b own came h ∙ rw (lt-ltb m j l))
          (λ e. ap (λ (x : Call ℕ). x.book) (sym (strike_many ws b j h (omega arith))))

      module _ (l : j ≤ m) where
        -- where m - j stand they are left, struck before, or none of them (j is 0)
        pub from_left : standing ≡ m - j → strike_from ws b j m ≡ call (drawn (left standing) 0) b
        unfolding strike_from strike_from_refusals
        from_left e =
            unmoved (drawn (left standing) 0)
            (past_limits ws b own came h ∙ rw (le-ltb m j l, e, eq-eqb (m - j) (m - j) refl, or-true))
            (λ q. let z : j ≡ 0 = omega arith in rw z (zero_keeps ws b))

        -- another number of entries than both
        from_other : (standing ≡ m → ⊥) → (standing ≡ m - j → ⊥) → strike_from ws b j m ≡ call (drawn (kept standing) 0) b
        unfolding strike_from strike_from_refusals
        from_other other e =
            unmoved (drawn (kept standing) 0)
            (past_limits ws b own came h ∙ rw (le-ltb m j l, ne_eqb standing m other, ne_eqb standing (m - j) e))
            (λ q. absurd (other q))

-- ---- what the code says and leaves

module _ (ws b out after : List ℕ) (n j m : ℕ) where
  -- nothing was struck
  unmoved_met : (o : Outcome Striking) → strike_from ws b j m ≡ call o b → (eqb (length (booked ws b)) m && is_struck j o) ≡ false
      → Writes out 0 (strike_from_line o) after n → Meets out (struck_from ws b j m) n false b after
  unmoved_met o e f w =
      subst (λ (x : Call Striking). Meets out (striking_from (eqb (length (booked ws b)) m) j x) n false b after) (sym e)
      (record { writes = w; leaves = refl; tells = sym f })

  -- a strike of 0 is refused, and so is this one
  stopped_met : (x : ℕ) → (strike ws b 0).outcome ≡ refused x → Writes out 0 (refusal_line x) after n → Meets out (struck_from ws b j m) n false b after
  stopped_met x e w = unmoved_met (refused x) (from_stopped ws b j m x (zero_refused ws b x e)) (and-false (eqb (length (booked ws b)) m)) w

  -- it tells that s entries stand
  module _ (s : ℕ) (told : (strike ws b 0).outcome ≡ drawn s 0) where
    open_for : NoneHolds (limits ws b)
    open_for = (zero_told ws b s told).0

    stand : length (booked ws b) ≡ s
    stand = (zero_told ws b s told).1

    pub many_met : m < j → Writes out 0 (refusal_line 16) after n → Meets out (struck_from ws b j m) n false b after
    many_met l w = unmoved_met (refused 16) (from_many ws b j m open_for l) (and-false (eqb (length (booked ws b)) m)) w

    pub standing_met : (c : Bool) (d : List ℕ) → s ≡ m → Meets out (striking j (strike ws b j)) n c d after → Meets out (struck_from ws b j m) n c d after
    standing_met c d e w = subst (λ (x : Service). Meets out x n c d after) (sym (from_standing ws b j m (stand ∙ e))) w

    module _ (l : j ≤ m) (other : s ≡ m → ⊥) where
      elsewhere : length (booked ws b) ≡ m → ⊥
      elsewhere q = other (sym stand ∙ q)

      pub before_met : s ≡ m - j → Writes out 0 (strike_line (drawn s 0)) after n → Meets out (struck_from ws b j m) n false b after
      before_met e w =
          unmoved_met (drawn (left s) 0) (rw stand at (from_left ws b j m open_for l (stand ∙ e)))
          (ap (λ (x : Bool). x && is_struck j (drawn (left s) 0)) (ne_eqb _ m elsewhere)) w

      pub other_met : (s ≡ m - j → ⊥) → Writes out 0 (kept_line s) after n → Meets out (struck_from ws b j m) n false b after
      other_met e w =
          unmoved_met (drawn (kept s) 0) (rw stand at (from_other ws b j m open_for l elsewhere (λ q. e (sym stand ∙ q))))
          (ap (λ (x : Bool). x && is_struck j (drawn (kept s) 0)) (ne_eqb _ m elsewhere)) w

-- the strike of 0, as the call answers it: a, with the book c after it
module _ (ws b c : List ℕ) (a : Result ℕ Refusal) (e : call (struck a) c ≡ strike ws b 0) where
  after_zero : c ≡ b
  after_zero = ap (λ (x : Call ℕ). x.book) e ∙ zero_keeps ws b

  pub zero_again : (s : ℕ) → a ≡ Ok s → (strike ws c 0).outcome ≡ drawn s 0
  zero_again s q = rw after_zero (ap (λ (x : Call ℕ). x.outcome) (sym e) ∙ ap struck q)

  module _ (out after : List ℕ) (n j m : ℕ) where
    pub accepted_met : (h : Bool) (d : List ℕ) → Meets out (struck_from ws c j m) n h d after → Meets out (struck_from ws b j m) n h d after
    accepted_met h d w = subst (λ (x : List ℕ). Meets out (struck_from ws x j m) n h d after) after_zero w

    pub refused_met : (x : Refusal) → a ≡ Err x → Writes out 0 (refusal_line (number_of x)) after n → Meets out (struck_from ws b j m) n false c after
    refused_met x q w =
        subst (λ (d : List ℕ). Meets out (struck_from ws b j m) n false d after) (sym after_zero)
        (stopped_met ws b out after n j m (number_of x) (ap (λ (y : Call ℕ). y.outcome) (sym e) ∙ ap struck q) w)
