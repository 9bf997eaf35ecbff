-- Laws of the service: a line's call by what the line is read as, and a call's answer with its book. Assumes nothing.
use mathlib.Core.Path.{◌≡◌, refl, ap, sym, subst, ◌∙◌}
use mathlib.Core.Bool.{Bool, false}
use mathlib.Core.List.{List, []}
use Prim.Native.Nat.{ℕ}
use Rattle.std.proofs.Common.{Option, Some, None}
use native.Mathlib.Omega.{arith}
use lib.Dec.{eqb}
use lib.ListN.{length}
use borrow.Author.Tests.{eqb-true}
use Rattle.words.specs.Outcome.{Outcome, drawn, refused}
use Rattle.kinds.specs.declared.Request.{Request}
use Rattle.layout.proofs.Decoding.{by-test}
use Rattle.opening.specs.Calls.{Call, call, booked}
use Rattle.layout.specs.Standing.{standing}
use Rattle.layout.specs.declared.Standing.{Standing}
use Rattle.book.specs.Deliver.{Booking, fresh, copy, after_delivery, deliver_to, deliver}
use Rattle.book.specs.Strike.{strike_in, strike}
use Rattle.redraws.specs.Redraw.{Redrawing}
use Rattle.writing.specs.Writing.{Writes}
use Rattle.request_line.specs.declared.Line.{Line}
use Rattle.request_line.specs.declared.Line.TheVariants.{Deliver, Strike, StrikeFrom, Redraw, Passed}
use Rattle.request_line.specs.Forms.{read_line}
use Rattle.answer_lines.specs.Answers.{delivery_line, strike_line, redraw_line}
use Rattle.service.specs.StrikeFrom.{strike_from}
use Rattle.service.specs.Service.{Service, serving, is_fresh, is_struck, delivering, striking, struck_from, answered, serve, Meets}
use Rattle.service.proofs.StrikingFrom.{strike_unchanged, from_standing}

-- nothing said is written by itself
pub silent : (l : List ℕ) → Writes l 0 [] l 0
silent l = record { bytes = refl; place = refl; room = omega arith }

module _ (out after b : List ℕ) (n : ℕ) (c : Bool) where
  -- an answer's line, and the book that the call left
  pub met : (t : List ℕ) → Writes out 0 t after n → Meets out (serving t b c) n c b after
  met t w = record { writes = w; leaves = refl; tells = refl }

  -- a delivery's
  pub delivery_met : (s : ℕ) (o : Outcome Booking) (k : Call Booking) → call o b ≡ k → Writes out 0 (delivery_line s o) after n → c ≡ is_fresh o
      → Meets out (delivering s k) n c b after
  delivery_met s o k e w t = subst (λ (x : Call Booking). Meets out (delivering s x) n c b after) e (record { writes = w; leaves = refl; tells = t })

  -- a strike's
  pub strike_met : (j : ℕ) (o : Outcome ℕ) (k : Call ℕ) → call o b ≡ k → Writes out 0 (strike_line o) after n → c ≡ is_struck j o
      → Meets out (striking j k) n c b after
  strike_met j o k e w t = subst (λ (x : Call ℕ). Meets out (striking j x) n c b after) e (record { writes = w; leaves = refl; tells = t })

  -- a redraw's
  pub redraw_met : (o k : Redrawing) → o ≡ k → Writes out 0 (redraw_line o) after n → Meets out (serving (redraw_line k) b c) n c b after
  redraw_met o k e w = subst (λ (x : Redrawing). Meets out (serving (redraw_line x) b c) n c b after) e (met (redraw_line o) w)

  -- a line's call is that of what it is read as
  pub line_met : (ws b₀ l : List ℕ) (k : ℕ) (v : Option Line) → read_line l ≡ v → Meets out (answered ws b₀ k v) n c b after → Meets out (serve ws b₀ k l) n c b after
  unfolding serve
  line_met ws b₀ l k v e m = subst (λ (x : Option Line). Meets out (answered ws b₀ k x) n c b after) (sym e) m

-- ---- what need not be written

module _ (b : List ℕ) where
  delivery_unchanged : (o : Outcome Booking) (st : Standing) (r : Request) → is_fresh o ≡ false → after_delivery o b st r ≡ b
  delivery_unchanged (drawn (fresh c) u) st r e = let z : ◌≡◌ {A = ℕ} 0 1 = cc in absurd (omega arith)
  delivery_unchanged (drawn (copy c) u) st r e = refl
  delivery_unchanged (refused n) st r e = refl

  -- where the entries stand that it names it is a strike, and elsewhere the book is as it was
  from_unchanged : (ws : List ℕ) (j m : ℕ) → (struck_from ws b j m).changed ≡ false → (struck_from ws b j m).book ≡ b
  unfolding strike_from strike strike_in
  from_unchanged ws j m e =
      by-test (λ (x : List ℕ). x ≡ b) (eqb (length (booked ws b)) m)
      (λ t. strike_unchanged b (strike ws b j).outcome (booked ws b) j
      (ap (λ (x : Service). x.changed) (sym (from_standing ws b j m (eqb-true (length (booked ws b)) m t))) ∙ e))
      (λ _. refl)

  answer_unchanged : (ws : List ℕ) (k : ℕ) (v : Option Line) → (answered ws b k v).changed ≡ false → (answered ws b k v).book ≡ b
  unfolding deliver deliver_to strike strike_in
  answer_unchanged ws k (Some (Deliver s r)) e = delivery_unchanged (deliver ws b s r).outcome (standing (booked ws b)) r e
  answer_unchanged ws k (Some (Strike j)) e = strike_unchanged b (strike ws b j).outcome (booked ws b) j e
  answer_unchanged ws k (Some (StrikeFrom j m)) e = from_unchanged ws j m e
  answer_unchanged ws k (Some Redraw) e = refl
  answer_unchanged ws k (Some Passed) e = refl
  answer_unchanged ws k None e = refl

  -- a line that is not said to change the book leaves it as it was
  pub unchanged : (ws l : List ℕ) (k : ℕ) → (serve ws b k l).changed ≡ false → (serve ws b k l).book ≡ b
  unfolding serve
  unchanged ws l k e = answer_unchanged ws k (read_line l) e
