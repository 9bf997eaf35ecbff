-- RULES, 'Demands', 3: from an all-zero book and one unchanging tape, after any sequence of deliveries and strikes, copies and refusals included, the
-- book is to the byte what an equal-sized empty book holds after each booking not struck is delivered once, in serial order. Assumes nothing.
use Rattle.std.specs.Prelude.{Result, ℕ, ◌+◌, ◌-◌, ◌≤◌, List, [], ◌∷◌, ◌++◌, ◌≡◌, length, take, replicate}
use Rattle.std.proofs.Math.Option.{none}
use Rattle.words.specs.declared.Refusal.{Refusal}
use Rattle.words.specs.Words.{most_words}
use Rattle.words.specs.Outcome.{Outcome, drawn, refused}
use Rattle.kinds.specs.declared.Request.{Request}
use Rattle.kinds.specs.Kinds.{RequestFits}
use Rattle.book.specs.declared.Delivered.{Delivered}
use Rattle.opening.specs.Calls.{call}
use Rattle.layout.specs.Book.{most_bytes}
use Rattle.book.specs.Deliver.{Booking, fresh, copy, delivered, deliver, DeliverAllows}
use Rattle.book.specs.Strike.{struck, StrikeAllows}
use Rattle.redraws.specs.Redraw.{redraw}

-- what a caller may ask that can write the book
pub data Operation : Type 0 where
  delivering : ℕ → Request → Operation
  striking : ℕ → Operation

-- a booking that stands, as its fresh delivery was answered
pub record Stood : Type 0 where
  pub serial : ℕ
  pub request : Request
  pub count : ℕ
  pub used : ℕ

abbrev pub stood : ℕ → Request → ℕ → ℕ → Stood
stood s r c u = record { serial = s; request = r; count = c; used = u }

-- a delivery answered as fresh adds its own, with the count and used of that answer; every other answer leaves the history
abbrev pub after_delivering : ℕ → Request → Outcome Booking → List Stood → List Stood
after_delivering s r (drawn (fresh c) u) h = h ++ (stood s r c u ∷ [])
after_delivering s r (drawn (copy c) u) h = h
after_delivering s r (refused n) h = h

-- an accepted strike of j takes off the last j, by the call's own j
abbrev pub after_striking : ℕ → Outcome ℕ → List Stood → List Stood
after_striking j (drawn m u) h = take (length h - j) h
after_striking j (refused n) h = h

pub record State : Type 0 where
  pub book : List ℕ
  pub history : List Stood

abbrev pub state : List ℕ → List Stood → State
state b h = record { book = b; history = h }

-- one call: any answer and any book at exit that its contract allows, with the history told by that answer
abbrev pub Called : List ℕ → State → Operation → State → Type 0
Called ws st (delivering s r) st' =
    (a : Result Delivered Refusal) × (DeliverAllows ws st.book s r a st'.book × (st'.history ≡ after_delivering s r (delivered a) st.history))
Called ws st (striking j) st' =
    (a : Result ℕ Refusal) × (StrikeAllows ws st.book j a st'.book × (st'.history ≡ after_striking j (struck a) st.history))

-- calls one after another, over one tape
abbrev pub Runs : List ℕ → State → List Operation → State → Type 0
Runs ws st [] st' = st ≡ st'
Runs ws st (o ∷ os) st' = (mid : State) × (Called ws st o mid × Runs ws mid os st')

-- each request has parameters of 64 bits, as a call's has; serials and j are any numbers
abbrev pub OperationsFit : List Operation → Type 0
OperationsFit [] = Unit
OperationsFit (delivering s r ∷ os) = RequestFits r × OperationsFit os
OperationsFit (striking j ∷ os) = OperationsFit os

-- serials run s, s + 1, ..
abbrev pub InSerialOrder : ℕ → List Stood → Type 0
InSerialOrder s [] = Unit
InSerialOrder s (x ∷ h) = (x.serial ≡ s) × InSerialOrder (s + 1) h

-- Delivered once each into the book b, the bookings of the history leave the book c; and each of these deliveries is accepted as fresh
-- and answers the same count and used.
abbrev pub Redelivers : List ℕ → List ℕ → List Stood → List ℕ → Type 0
Redelivers ws b [] c = b ≡ c
Redelivers ws b (x ∷ h) c =
    ((deliver ws b x.serial x.request).outcome ≡ drawn (fresh x.count) x.used)
    × Redelivers ws (deliver ws b x.serial x.request).book h c

-- what is demanded of a book of n bytes, with the bookings that stand in it
pub record Kept (ws : List ℕ) (n : ℕ) (st : State) : Type 0 where
  pub in_order : InSerialOrder 1 st.history
  pub bytes : Redelivers ws (replicate n 0) st.history st.book
  -- a delivery that repeats a standing one is answered as a copy, never refused, with the count and used of the history, and changes no byte
  pub copies : (before after : List Stood) (x : Stood) → st.history ≡ before ++ x ∷ after
      → deliver ws st.book x.serial x.request ≡ call (drawn (copy x.count) x.used) st.book
  -- the book redraws clean over its tape, where a call may look at them at all
  pub clean : length ws ≤ most_words → n ≤ most_bytes → redraw ws st.book ≡ record { outcome = drawn (length st.history) 0; named = none }

-- For every tape, every size and every list of operations whose requests are of 64 bits: from an all-zero book, whatever the calls answer and
-- write, as their contracts allow, the book is kept.
abbrev pub Demand3 : Type 0
Demand3 =
    (ws : List ℕ) (n : ℕ) (os : List Operation) (st : State) → OperationsFit os → Runs ws (state (replicate n 0) []) os st → Kept ws n st
