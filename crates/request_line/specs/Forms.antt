-- RULES, 'Lines of pull': which lines are read, and as what. Assumes nothing.
use Rattle.std.specs.Prelude.{ℕ, ◌-◌, ◌^◌, Bool, cond, ◌&&◌, ◌||◌, List, [], ◌∷◌, eqb, ltb, length, get_or, Option, None, Some}
use Rattle.kinds.specs.declared.Request.{Request}
use Rattle.kinds.specs.declared.Request.TheVariants.{Hypergeometric, Poisson, Geometric, StandardGeometric}
use Rattle.numerals.specs.Digits.{number}
use Rattle.numerals.specs.Decimal.{float_bits}
use Rattle.parted.specs.Parts.{word}
use Rattle.request_line.specs.declared.Line.{Line}
use Rattle.request_line.specs.declared.Line.TheVariants as line
use Rattle.request_line.specs.Words.{words, same_text}
use Rattle.request_line.specs.Ends.{text_of, is_line}

-- the calls' names
abbrev pub deliver_text : List ℕ
deliver_text = 100 ∷ 101 ∷ 108 ∷ 105 ∷ 118 ∷ 101 ∷ 114 ∷ []  -- "deliver"

abbrev pub strike_text : List ℕ
strike_text = 115 ∷ 116 ∷ 114 ∷ 105 ∷ 107 ∷ 101 ∷ []  -- "strike"

abbrev pub redraw_text : List ℕ
redraw_text = 114 ∷ 101 ∷ 100 ∷ 114 ∷ 97 ∷ 119 ∷ []  -- "redraw"

-- the word before the number of entries that a strike is from
abbrev pub from_text : List ℕ
from_text = 102 ∷ 114 ∷ 111 ∷ 109 ∷ []  -- "from"

-- the kinds' names
abbrev pub hypergeometric_text : List ℕ
hypergeometric_text = 104 ∷ 121 ∷ 112 ∷ 101 ∷ 114 ∷ 103 ∷ 101 ∷ 111 ∷ 109 ∷ 101 ∷ 116 ∷ 114 ∷ 105 ∷ 99 ∷ []  -- "hypergeometric"

abbrev pub poisson_text : List ℕ
poisson_text = 112 ∷ 111 ∷ 105 ∷ 115 ∷ 115 ∷ 111 ∷ 110 ∷ []  -- "poisson"

abbrev pub geometric_text : List ℕ
geometric_text = 103 ∷ 101 ∷ 111 ∷ 109 ∷ 101 ∷ 116 ∷ 114 ∷ 105 ∷ 99 ∷ []  -- "geometric"

abbrev pub standard_text : List ℕ
standard_text = 115 ∷ 116 ∷ 97 ∷ 110 ∷ 100 ∷ 97 ∷ 114 ∷ 100 ∷ []  -- "standard"

-- a line of k words that has this text as its word i
abbrev pub is_form : ℕ → ℕ → List ℕ → List ℕ → Bool
is_form k i t l = eqb (words l) k && same_text (word i l) t

-- what follows a number, or that it can't be read
abbrev pub on_number : {X : Type 0} → Option ℕ → (ℕ → X) → X → X
on_number (Some v) f x = f v
on_number None f x = x

-- a number of 64 bits, the word k
abbrev pub number_at : ℕ → List ℕ → Option ℕ
number_at k l = number 10 (2 ^ 64 - 1) (word k l)

-- N K n, from the word 3 on
unfoldable pub tray_asked : List ℕ → Option Request
tray_asked l =
    on_number (number_at 3 l)
    (λ (N : ℕ). on_number (number_at 4 l) (λ (K : ℕ). on_number (number_at 5 l) (λ (n : ℕ). Some (Hypergeometric N K n)) None) None)
    None

-- T, or p, the word 3
unfoldable pub poisson_asked : List ℕ → Option Request
poisson_asked l = on_number (float_bits (word 3 l)) (λ (T : ℕ). Some (Poisson T)) None

unfoldable pub geometric_asked : List ℕ → Option Request
geometric_asked l = on_number (float_bits (word 3 l)) (λ (p : ℕ). Some (Geometric p)) None

-- the request of a delivery, by the kind's name, the word 2
unfoldable pub request_asked : List ℕ → Option Request
request_asked l =
    cond (is_form 6 2 hypergeometric_text l) (tray_asked l)
    (cond (is_form 4 2 poisson_text l) (poisson_asked l)
    (cond (is_form 4 2 geometric_text l) (geometric_asked l)
    (cond (is_form 3 2 standard_text l) (Some StandardGeometric) None)))

abbrev pub on_asked : {X : Type 0} → Option Request → (Request → X) → X → X
on_asked (Some r) f x = f r
on_asked None f x = x

-- `deliver`, a serial of 32 bits, a request
unfoldable pub deliver_line : List ℕ → Option Line
deliver_line l =
    on_number (number 10 (2 ^ 32 - 1) (word 1 l)) (λ (s : ℕ). on_asked (request_asked l) (λ (r : Request). Some (line.Deliver s r)) None) None

-- `strike`, and j
unfoldable pub strike_line : List ℕ → Option Line
strike_line l = cond (eqb (words l) 2) (on_number (number_at 1 l) (λ (j : ℕ). Some (line.Strike j)) None) None

-- `strike`, j, `from` and the number of entries
unfoldable pub strike_from_line : List ℕ → Option Line
strike_from_line l = on_number (number_at 1 l) (λ (j : ℕ). on_number (number_at 3 l) (λ (m : ℕ). Some (line.StrikeFrom j m)) None) None

-- either strike
unfoldable pub any_strike_line : List ℕ → Option Line
any_strike_line l = cond (is_form 4 2 from_text l) (strike_from_line l) (strike_line l)

-- `redraw`
unfoldable pub redraw_line : List ℕ → Option Line
redraw_line l = cond (eqb (words l) 1) (Some line.Redraw) None

-- a call, by its first word
unfoldable pub call_line : List ℕ → Option Line
call_line l =
    cond (same_text (word 0 l) deliver_text) (deliver_line l)
    (cond (same_text (word 0 l) strike_text) (any_strike_line l)
    (cond (same_text (word 0 l) redraw_text) (redraw_line l) None))

-- empty lines and lines that begin with `#`
unfoldable pub is_passed : List ℕ → Bool
is_passed l = eqb (length l) 0 || eqb (get_or l 0 0) 35  -- "#"

-- a line's text is at most 255 bytes
unfoldable pub read_text : List ℕ → Option Line
read_text l = cond (ltb 255 (length l)) None (cond (is_passed l) (Some line.Passed) (call_line l))

-- what is not a whole line can't be read
unfoldable pub read_line : List ℕ → Option Line
read_line l = cond (is_line l) (read_text (text_of l)) None
