-- A strike from a number of entries may be sent again, proved: where it struck, the entries that it leaves are those that it finds, and
-- elsewhere the book is as it was. Assumes nothing.
use mathlib.Core.Path.{◌≡◌, refl, sym, ap, subst, ◌∙◌}
use mathlib.Core.Bool.{Bool, true, false}
use mathlib.Core.List.{List}
use Prim.Native.Nat.{ℕ, ◌-◌}
use native.Mathlib.Omega.{arith}
use lib.Dec.{eqb}
use lib.ListN.{length}
use lib.Seq.{length-take-le}
use borrow.Author.Tests.{ne_eqb, eqb-true, eqb-false}
use Rattle.words.specs.Outcome.{Outcome, drawn, refused}
use Rattle.answer_lines.specs.Answers.{strike_line}
use Rattle.opening.specs.Calls.{Call, call, booked}
use Rattle.book.specs.Strike.{strike_in, strike}
use Rattle.book.proofs.LeftOver.{strike_opens}
use Rattle.service.specs.StrikeFrom.{Striking, left, strike_from_line, strike_from}
use Rattle.service.specs.Service.{Service, is_struck, striking, struck_from, serve}
use Rattle.service.specs.SentAgain.{AreBytes, SentAgain}
use Rattle.service.proofs.StrikingFrom.{strike_unchanged, from_standing, strike_told, from_left}

-- asked again, it says what s says and leaves the book that s leaves
abbrev Same : List ℕ → ℕ → ℕ → Service → Type 0
Same ws j m s = ((struck_from ws s.book j m).said ≡ s.said) × ((struck_from ws s.book j m).book ≡ s.book)

module _ (ws b : List ℕ) (j m : ℕ) where
  -- a book as it was is asked the same again
  unmoved_same : (struck_from ws b j m).book ≡ b → Same ws j m (struck_from ws b j m)
  unmoved_same e = rw e (refl, e)

module _ (ws b : List ℕ) (j m : ℕ) where
  -- where m stand it is a strike, accepted or not
  module _ (by : AreBytes b) (e : length (booked ws b) ≡ m) where
    abbrev struck : Service
    struck = striking j (strike ws b j)

    -- not: no byte changed
    refused_same : (n : ℕ) → (strike ws b j).outcome ≡ refused n → Same ws j m (struck_from ws b j m)
    unfolding strike strike_in
    refused_same n q =
        unmoved_same ws b j m
        (ap (λ (x : Service). x.book) (from_standing ws b j m e)
        ∙ strike_unchanged b (strike ws b j).outcome (booked ws b) j (ap (is_struck j) q))

    -- accepted: m - j are left
    struck_same : (n u : ℕ) → (strike ws b j).outcome ≡ drawn n u → Same ws j m struck
    struck_same n u q =
        let x = strike_told ws b j n u q in
        let again = strike_opens ws b j by x.0 x.1 in
        let few : length (booked ws (strike ws b j).book) ≡ m - j =
        ap length again.1 ∙ length-take-le (length (booked ws b) - j) (booked ws b) (omega arith) ∙ ap (λ (k : ℕ). k - j) e in
        let told : (strike ws b j).outcome ≡ drawn (m - j) 0 = q ∙ sym x.2 ∙ ap (λ (k : ℕ). drawn (k - j) 0) e in
        let next : strike_from ws (strike ws b j).book j m ≡ call (drawn (left (m - j)) 0) (strike ws b j).book =
        from_left ws (strike ws b j).book j m again.0 (omega arith) few
        ∙ ap (λ (k : ℕ). call (drawn (left k) 0) (strike ws b j).book) few in (
          ap (λ (c : Call Striking). strike_from_line c.outcome) next ∙ ap strike_line (sym told),
          ap (λ (c : Call Striking). c.book) next,
        )

    by_answer : (o : Outcome ℕ) → (strike ws b j).outcome ≡ o → Same ws j m (struck_from ws b j m)
    by_answer (drawn n u) q = subst (Same ws j m) (sym (from_standing ws b j m e)) (struck_same n u q)
    by_answer (refused n) q = refused_same n q

    standing_same : Same ws j m (struck_from ws b j m)
    standing_same = by_answer (strike ws b j).outcome refl

  -- where another number stands no byte changes
  pub elsewhere : (length (booked ws b) ≡ m → ⊥) → (struck_from ws b j m).book ≡ b
  unfolding strike_from
  elsewhere n = rw (ne_eqb (length (booked ws b)) m n)

  either_same : AreBytes b → (t : Bool) → eqb (length (booked ws b)) m ≡ t → Same ws j m (struck_from ws b j m)
  either_same by true t = standing_same by (eqb-true (length (booked ws b)) m t)
  either_same by false t = unmoved_same ws b j m (elsewhere (eqb-false (length (booked ws b)) m t))

pub sent_again : SentAgain
unfolding serve
sent_again =
    record {
      same = λ ws b l j m by r k k'. rw r (either_same ws b j m by (eqb (length (booked ws b)) m) refl);
      strikes = λ ws b k j m e. from_standing ws b j m e;
      keeps = λ ws b k j m n. elsewhere ws b j m n;
    }
