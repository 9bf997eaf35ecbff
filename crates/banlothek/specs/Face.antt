-- RULES, 'The functions for C': what the fields of their struct hold, by what the call comes to. Assumes nothing.
use Rattle.std.specs.Prelude.{ℕ, ◌≡◌, List}
use Rattle.std.proofs.Math.Option.{Option, none, some, get_or}
use Rattle.words.specs.Outcome.{Outcome, drawn, refused}
use Rattle.kinds.specs.declared.Request.{Request}
use Rattle.kinds.specs.Kinds.{request_of}
use Rattle.draws.specs.Request.{draw_of}
use Rattle.opening.specs.Calls.{Call, call}
use Rattle.book.specs.Deliver.{Booking, fresh, copy, deliver}
use Rattle.book.specs.Strike.{strike}
use Rattle.redraws.specs.Redraw.{Redrawing, redraw}
use Rattle.banlothek.specs.declared.BanlothekAnswer.{BanlothekAnswer}

-- ---- what is asked for

-- what a number that is no kind's is refused with: of these functions alone, and no refusal of the rules
abbrev pub no_such_kind : ℕ
no_such_kind = 100

-- a delivery of what is asked for; where that is nothing, it is refused before all else, and the book stays
abbrev pub deliver_asked : List ℕ → List ℕ → ℕ → Option Request → Call Booking
deliver_asked ws b s none = call (refused no_such_kind) b
deliver_asked ws b s (some r) = deliver ws b s r

-- which functions these are: a number that grows with them
abbrev pub version : ℕ
version = 1

-- ---- the struct

-- a call that is accepted: refusal 0, and no serial
abbrev pub accepted : ℕ → ℕ → ℕ → BanlothekAnswer
accepted copied used count = record { refusal = 0; copied = copied; serial = 0; used = used; count = count }

-- a refusal by its number, and the serial that it names: count 0, and 0 words used
abbrev pub refused_by : ℕ → ℕ → BanlothekAnswer
refused_by number serial = record { refusal = number; copied = 0; serial = serial; used = 0; count = 0 }

-- a count and the words used, or a refusal: of a draw; of a strike, whose count is the entries left
abbrev pub plain : Outcome ℕ → BanlothekAnswer
plain (drawn c u) = accepted 0 u c
plain (refused n) = refused_by n 0

-- a delivery's; a copy is marked
abbrev pub of_delivery : Outcome Booking → BanlothekAnswer
of_delivery (drawn (fresh c) u) = accepted 0 u c
of_delivery (drawn (copy c) u) = accepted 1 u c
of_delivery (refused n) = refused_by n 0

-- a redraw's: the entries where all agree; 17 names its serial, and nothing else names one
abbrev pub naming : Outcome ℕ → ℕ → BanlothekAnswer
naming (drawn c u) s = accepted 0 u c
naming (refused n) s = refused_by n s

abbrev pub of_redraw : Redrawing → BanlothekAnswer
of_redraw r = naming r.outcome (get_or r.named 0)

-- a call that may write does what its rule says: the struct has what the call comes to, and the book is as the rule leaves it
pub record Meets {A : Type 0} (fields : Outcome A → BanlothekAnswer) (c : Call A) (r : BanlothekAnswer) (book : List ℕ) : Type 0 where
  pub answers : r ≡ fields c.outcome
  pub leaves : book ≡ c.book

-- ---- the contracts

-- Over the words ws and the book b at entry: the answer a, and the book c at exit, of a draw of the request r, of a delivery
-- of the kind k with the parameters ps, of a strike, of a redraw.
abbrev pub DrawTells : Request → List ℕ → BanlothekAnswer → Type 0
DrawTells r ws a = a ≡ plain (draw_of r ws)

abbrev pub DeliverTells : List ℕ → List ℕ → ℕ → ℕ → List ℕ → BanlothekAnswer → List ℕ → Type 0
DeliverTells ws b s k ps a c = Meets of_delivery (deliver_asked ws b s (request_of k ps)) a c

abbrev pub StrikeTells : List ℕ → List ℕ → ℕ → BanlothekAnswer → List ℕ → Type 0
StrikeTells ws b j a c = Meets plain (strike ws b j) a c

abbrev pub RedrawTells : List ℕ → List ℕ → BanlothekAnswer → Type 0
RedrawTells ws b a = a ≡ of_redraw (redraw ws b)
