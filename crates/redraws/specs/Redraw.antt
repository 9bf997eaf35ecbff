-- RULES, 'The book', Redraw, and 'Refusals': order 1, 11, 12, 17. The book is never changed. Assumes nothing.
use Rattle.std.specs.Prelude.{ℕ, Bool, false, cond, not, ◌&&◌, List, [], ◌∷◌, ◌++◌, Result, Ok, Err, ◌≡◌, eqb, length, drop}
use Rattle.std.proofs.Math.Option.{Option, none, some}
use Rattle.words.specs.declared.Refusal.{Refusal}
use Rattle.words.specs.Outcome.{Outcome, drawn, refused}
use Rattle.words.specs.Refusals.{Condition, ◌on◌, given}
use Rattle.words.specs.Draw.{ends_by}
use Rattle.words.specs.Paper.{number_of}
use Rattle.draws.specs.Request.{draw_of}
use Rattle.entry.specs.declared.Entry.{Entry}
use Rattle.redraws.specs.declared.Redrawn.{Redrawn}
use Rattle.redraws.specs.declared.Redrawn.TheVariants.{Agrees, Differs}
use Rattle.opening.specs.Calls.{booked, limits}
use Rattle.layout.specs.Book.{is_none}

-- whether a draw came to this count and these words used
abbrev pub is_drawn : ℕ → ℕ → Outcome ℕ → Bool
is_drawn c u (drawn d v) = eqb d c && eqb v u
is_drawn c u (refused n) = false

-- the entry is drawn again from its place: its request is accepted, with its count and used
unfoldable pub agrees : List ℕ → Entry → Bool
agrees ws e = is_drawn e.count e.used (draw_of e.request (drop e.place ws))

-- the lowest serial that does not agree: serials ascend, so it is the first
unfoldable pub lowest : List ℕ → List Entry → Option ℕ
lowest ws [] = none
lowest ws (e ∷ es) = cond (agrees ws e) (lowest ws es) (some e.serial)

-- 17
unfoldable pub redraw_refusals : List ℕ → List ℕ → List Entry → List Condition
redraw_refusals ws b es = limits ws b ++ (17 on not (is_none (lowest ws es)) ∷ [])

-- what a redraw comes to, and the serial that a 17 names
pub record Redrawing : Type 0 where
  pub outcome : Outcome ℕ
  pub named : Option ℕ

abbrev pub naming : Outcome ℕ → Option ℕ → Redrawing
naming o x = record { outcome = o; named = cond (ends_by 17 o) x none }

-- a redraw of the entries es: where all agree the answer is their number, with 0 words used
unfoldable pub redraw_of : List ℕ → List ℕ → List Entry → Redrawing
redraw_of ws b es = naming (given (redraw_refusals ws b es) (drawn (length es) 0)) (lowest ws es)

unfoldable pub redraw : List ℕ → List ℕ → Redrawing
redraw ws b = redraw_of ws b (booked ws b)

-- what a redraw answers, in the rules' terms: 17 names its serial; nothing is lost (`one_redrawn`)
abbrev pub redrawn : Result Redrawn Refusal → Redrawing
redrawn (Ok (Agrees n)) = record { outcome = drawn n 0; named = none }
redrawn (Ok (Differs s)) = record { outcome = refused 17; named = some s }
redrawn (Err x) = record { outcome = refused (number_of x); named = none }

-- The contract of `redraw`: over the words ws and the book b, the answer a is the rule's. The book can't be written.
abbrev pub RedrawAllows : List ℕ → List ℕ → Result Redrawn Refusal → Type 0
RedrawAllows ws b a = redrawn a ≡ redraw ws b
