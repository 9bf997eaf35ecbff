-- RULES, 'Lines of pull': a strike that names how many entries it is from, which may so be sent again. Assumes nothing.
use Rattle.std.specs.Prelude.{ℕ, ◌-◌, cond, ◌||◌, List, [], ◌∷◌, ◌++◌, eqb, ltb, length}
use Rattle.words.specs.Outcome.{Outcome, drawn, refused}
use Rattle.words.specs.Refusals.{Condition, ◌on◌, given}
use Rattle.opening.specs.Calls.{Call, call, booked, limits}
use Rattle.book.specs.Strike.{strike}
use Rattle.answer_lines.specs.Answers.{strike_line, kept_line, refusal_line}

-- what it comes to: the entries are left that it was to leave, or the book was kept with the entries that stand
pub data Striking : Type 0 where
  left : ℕ → Striking
  kept : ℕ → Striking

-- 16: j is above the number m of entries that it is from
unfoldable pub strike_from_refusals : List ℕ → List ℕ → ℕ → ℕ → List Condition
strike_from_refusals ws b j m = limits ws b ++ (16 on ltb m j ∷ [])

-- where n entries stand: m, and the last j are struck; m - j, and they were struck before; or any other number
abbrev pub by_entries : ℕ → ℕ → ℕ → Striking
by_entries n j m = cond (eqb n m || eqb n (m - j)) (left (m - j)) (kept n)

-- the book changes only where m stand
abbrev pub after_strike_from : List ℕ → List ℕ → ℕ → ℕ → List ℕ
after_strike_from ws b j m = cond (eqb (length (booked ws b)) m) (strike ws b j).book b

unfoldable pub strike_from : List ℕ → List ℕ → ℕ → ℕ → Call Striking
strike_from ws b j m =
    call (given (strike_from_refusals ws b j m) (drawn (by_entries (length (booked ws b)) j m) 0)) (after_strike_from ws b j m)

-- its answer: `left 8`, as a strike's, or `kept 9`
abbrev pub strike_from_line : Outcome Striking → List ℕ
strike_from_line (drawn (left n) u) = strike_line (drawn n u)
strike_from_line (drawn (kept n) u) = kept_line n
strike_from_line (refused n) = refusal_line n
