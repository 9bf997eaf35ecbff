-- RULES, 'The book', Strike, and 'Refusals': order 1, 11, 12, 16. Assumes nothing.
use Rattle.std.specs.Prelude.{ℕ, ◌-◌, List, [], ◌∷◌, ◌++◌, Result, Ok, Err, ◌≡◌, ltb, length, take}
use Rattle.words.specs.declared.Refusal.{Refusal}
use Rattle.words.specs.Outcome.{Outcome, drawn, refused}
use Rattle.words.specs.Refusals.{Condition, ◌on◌, given}
use Rattle.words.specs.Paper.{number_of}
use Rattle.bytes_le.specs.Zeros.{wiped}
use Rattle.entry.specs.declared.Entry.{Entry}
use Rattle.layout.specs.Book.{length_all}
use Rattle.opening.specs.Calls.{Call, call, booked, limits}

-- 16: j above the number of entries
unfoldable pub strike_refusals : List ℕ → List ℕ → List Entry → ℕ → List Condition
strike_refusals ws b es j = limits ws b ++ (16 on ltb (length es) j ∷ [])

-- the entries left by a strike of the last j
abbrev pub left_by : ℕ → List Entry → List Entry
left_by j es = take (length es - j) es

-- the last j entries become zero bytes and nothing else changes
abbrev pub after_strike : Outcome ℕ → List ℕ → List Entry → ℕ → List ℕ
after_strike (drawn m u) b es j = wiped (length_all (left_by j es)) (length_all es) b
after_strike (refused n) b es j = b

abbrev pub striking : Outcome ℕ → List ℕ → List Entry → ℕ → Call ℕ
striking o b es j = call o (after_strike o b es j)

-- a strike in a book with the entries es: the answer is the number of entries left, with 0 words used
unfoldable pub strike_in : List ℕ → List ℕ → List Entry → ℕ → Call ℕ
strike_in ws b es j = striking (given (strike_refusals ws b es j) (drawn (length es - j) 0)) b es j

unfoldable pub strike : List ℕ → List ℕ → ℕ → Call ℕ
strike ws b j = strike_in ws b (booked ws b) j

-- what a strike answers, in the rules' terms; nothing is lost (`one_struck`)
abbrev pub struck : Result ℕ Refusal → Outcome ℕ
struck (Ok n) = drawn n 0
struck (Err x) = refused (number_of x)

-- The contract of `strike`: over the words ws and the book b at entry, the answer a and the book c at exit are the rule's.
abbrev pub StrikeAllows : List ℕ → List ℕ → ℕ → Result ℕ Refusal → List ℕ → Type 0
StrikeAllows ws b j a c = call (struck a) c ≡ strike ws b j
