-- RULES, 'Demands', 3, over 'Lines of pull': whatever lines the pull service is fed over one tape, from an all-zero book, and whatever it
-- does with each, as the contract of `serve` allows, the book is kept as demand 3 says, with the history of the calls that its lines ask
-- for. Assumes nothing.
use Rattle.std.specs.Prelude.{ℕ, suc, Bool, cond, Option, Some, None, List, [], ◌∷◌, ◌≡◌, eqb, length, replicate}
use Rattle.request_line.specs.declared.Line.{Line}
use Rattle.request_line.specs.declared.Line.TheVariants.{Deliver, Strike, StrikeFrom, Redraw, Passed}
use Rattle.request_line.specs.Forms.{read_line}
use Rattle.book.specs.Deliver.{deliver}
use Rattle.book.specs.Strike.{strike}
use Rattle.service.specs.Service.{ServeAllows}
use Rattle.demands.specs.Demand3.{Operation, delivering, striking, after_delivering, after_striking, State, state, Kept}

-- the call that can write the book, if the line asks for one; where n bookings stand, a strike from m asks for one only if n is m
abbrev pub operation_of : ℕ → Option Line → List Operation
operation_of n (Some (Deliver s r)) = delivering s r ∷ []
operation_of n (Some (Strike j)) = striking j ∷ []
operation_of n (Some (StrikeFrom j m)) = cond (eqb n m) (striking j ∷ []) []
operation_of n (Some Redraw) = []
operation_of n (Some Passed) = []
operation_of n None = []

-- one call, by the rules, and calls one after another
abbrev pub next : List ℕ → State → Operation → State
next ws st (delivering s r) =
    state (deliver ws st.book s r).book (after_delivering s r (deliver ws st.book s r).outcome st.history)
next ws st (striking j) =
    state (strike ws st.book j).book (after_striking j (strike ws st.book j).outcome st.history)

abbrev pub run : List ℕ → State → List Operation → State
run ws st [] = st
run ws st (o ∷ os) = run ws (next ws st o) os

-- the state after a line, by the bookings that stand before it, and after lines one after another
abbrev pub after_line : List ℕ → State → List ℕ → State
after_line ws st l = run ws st (operation_of (length st.history) (read_line l))

abbrev pub after_lines : List ℕ → State → List (List ℕ) → State
after_lines ws st [] = st
after_lines ws st (l ∷ ls) = after_lines ws (after_line ws st l) ls

-- the line l, of number k, is served over the book b, into some buffer, and leaves the book c
pub record Served (ws b : List ℕ) (k : ℕ) (l c : List ℕ) : Type 0 where
  pub out : List ℕ
  pub size : ℕ
  pub changed : Bool
  pub after : List ℕ
  pub allowed : ServeAllows ws b k l out size changed c after

-- lines that are served one after another, the first of them numbered k, leave the book c
abbrev pub ServedAll : List ℕ → List ℕ → ℕ → List (List ℕ) → List ℕ → Type 0
ServedAll ws b k [] c = b ≡ c
ServedAll ws b k (l ∷ ls) c = (d : List ℕ) × (Served ws b k l d × ServedAll ws d (suc k) ls c)

-- for every tape, size and list of lines
abbrev pub LinesKept : Type 0
LinesKept =
    (ws : List ℕ) (n k : ℕ) (ls : List (List ℕ)) (c : List ℕ) → ServedAll ws (replicate n 0) k ls c
    → Kept ws n (state c (after_lines ws (state (replicate n 0) []) ls).history)
