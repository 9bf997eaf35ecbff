-- RULES, 'Lines of pull': what comes of one line, that is what is said, the book after it, and whether the book has to be written.
-- Assumes nothing.
use Rattle.std.specs.Prelude.{ℕ, Bool, true, false, Option, Some, None, not, ◌&&◌, List, [], ◌≡◌, eqb, length}
use Rattle.words.specs.Outcome.{Outcome, drawn, refused}
use Rattle.opening.specs.Calls.{Call, booked}
use Rattle.book.specs.Deliver.{Booking, fresh, copy, deliver}
use Rattle.book.specs.Strike.{strike}
use Rattle.redraws.specs.Redraw.{redraw}
use Rattle.writing.specs.Writing.{Writes}
use Rattle.request_line.specs.declared.Line.{Line}
use Rattle.request_line.specs.declared.Line.TheVariants.{Deliver, Strike, StrikeFrom, Redraw, Passed}
use Rattle.request_line.specs.Forms.{read_line}
use Rattle.answer_lines.specs.Answers.{delivery_line, strike_line, redraw_line, unread_line}
use Rattle.service.specs.StrikeFrom.{Striking, strike_from_line, strike_from}

pub record Service : Type 0 where
  -- the answer's line; nothing for a line that is passed over
  pub said : List ℕ
  -- the book at the end
  pub book : List ℕ
  -- whether the call changed it
  pub changed : Bool

abbrev pub serving : List ℕ → List ℕ → Bool → Service
serving t b c = record { said = t; book = b; changed = c }

-- a fresh booking changes the book, a copy and a refusal don't
abbrev pub is_fresh : Outcome Booking → Bool
is_fresh (drawn (fresh c) u) = true
is_fresh (drawn (copy c) u) = false
is_fresh (refused n) = false

-- a strike of 0 entries changes nothing
abbrev pub is_struck : {A : Type 0} → ℕ → Outcome A → Bool
is_struck j (drawn n u) = not (eqb j 0)
is_struck j (refused n) = false

abbrev pub delivering : ℕ → Call Booking → Service
delivering s c = serving (delivery_line s c.outcome) c.book (is_fresh c.outcome)

abbrev pub striking : ℕ → Call ℕ → Service
striking j c = serving (strike_line c.outcome) c.book (is_struck j c.outcome)

-- a strike from m entries changes nothing where they don't stand
abbrev pub striking_from : Bool → ℕ → Call Striking → Service
striking_from stand j c = serving (strike_from_line c.outcome) c.book (stand && is_struck j c.outcome)

abbrev pub struck_from : List ℕ → List ℕ → ℕ → ℕ → Service
struck_from ws b j m = striking_from (eqb (length (booked ws b)) m) j (strike_from ws b j m)

-- the call that a line asks for, over the words ws and the book b; a line that can't be read calls nothing, and is named by its number k
abbrev pub answered : List ℕ → List ℕ → ℕ → Option Line → Service
answered ws b k (Some (Deliver s r)) = delivering s (deliver ws b s r)
answered ws b k (Some (Strike j)) = striking j (strike ws b j)
answered ws b k (Some (StrikeFrom j m)) = struck_from ws b j m
answered ws b k (Some Redraw) = serving (redraw_line (redraw ws b)) b false
answered ws b k (Some Passed) = serving [] b false
answered ws b k None = serving (unread_line k) b false

unfoldable pub serve : List ℕ → List ℕ → ℕ → List ℕ → Service
serve ws b k l = answered ws b k (read_line l)

-- a call of the service does what the rule says: its answer stands at the front of the bytes lent for it, its length is told, the book
-- is as the rule leaves it, and so is whether it was changed
pub record Meets (out : List ℕ) (s : Service) (n : ℕ) (c : Bool) (b : List ℕ) (after : List ℕ) : Type 0 where
  pub writes : Writes out 0 s.said after n
  pub leaves : b ≡ s.book
  pub tells : c ≡ s.changed

-- The contract of `serve`, for the line l, of number k, over the words ws and the book b at entry: n bytes of out, which makes them after, are
-- the answer; c says whether the book was changed, and d is the book at exit.
abbrev pub ServeAllows : List ℕ → List ℕ → ℕ → List ℕ → List ℕ → ℕ → Bool → List ℕ → List ℕ → Type 0
ServeAllows ws b k l out n c d after = Meets out (serve ws b k l) n c d after
