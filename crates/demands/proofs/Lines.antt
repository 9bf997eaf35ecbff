-- The pull service keeps demand 3, proved: its lines are calls of that demand, and a request that is read fits 64 bits. Assumes nothing.
use mathlib.Core.Path.{◌≡◌, refl, ◌∙◌}
use mathlib.Core.Bool.{false, cond, ◌&&◌}
use mathlib.Core.List.{List, [], ◌∷◌, ◌++◌}
use Prim.Native.Nat.{ℕ, suc, ◌-◌, ◌^◌, ◌<◌}
use native.Mathlib.Omega.{arith}
use lib.Dec.{eqb, ltb}
use lib.Ieee.{binary64, round}
use lib.Ieee.Bits.{to_bits-lt}
use lib.Ieee.Fits.{round-fits}
use lib.ListN.{length, drop, replicate}
use Rattle.kinds.specs.declared.Request.{Request}
use Rattle.kinds.specs.Kinds.{numbered, kind_of, parameters_of, RequestFits}
use Rattle.layout.proofs.Decoding.{by-test}
use Rattle.std.proofs.Common.{Option, Some, None}
use Rattle.numerals.specs.Digits.{number}
use Rattle.numerals.specs.Decimal.{is_decimal, whole_of, places_of, is_short, nearest_bits, decimal_bits, is_hexadecimal, float_bits}
use Rattle.numerals.proofs.Reading.{number_within}
use Rattle.request_line.specs.declared.Line.{Line}
use Rattle.request_line.specs.declared.Line.TheVariants.{Deliver, Strike, StrikeFrom, Redraw, Passed}
use Rattle.parted.specs.Parts.{word}
use Rattle.request_line.specs.Words.{words, same_text}
use Rattle.request_line.specs.Ends.{text_of, is_line}
use Rattle.request_line.specs.Forms.{deliver_text, strike_text, from_text, redraw_text, hypergeometric_text, poisson_text, geometric_text, standard_text, is_form, on_number, number_at, tray_asked, poisson_asked, geometric_asked, request_asked, on_asked, deliver_line, strike_line, strike_from_line, any_strike_line, redraw_line, call_line, is_passed, read_text, read_line}
use Rattle.opening.specs.Calls.{booked}
use Rattle.book.specs.Strike.{strike}
use Rattle.service.specs.StrikeFrom.{strike_from}
use Rattle.service.specs.Service.{answered, serve}
use Rattle.demands.specs.Demand3.{Operation, delivering, striking, State, state, OperationsFit, Kept}
use Rattle.demands.specs.Lines.{operation_of, next, run, after_lines, ServedAll, LinesKept}
use Rattle.demands.proofs.Demand3.{all_kept, run_agrees}

-- ---- the book that the lines leave is the one that their calls leave

-- calls after calls go on from the state that those leave
run_append : (ws : List ℕ) (os ps : List Operation) (st : State) → run ws st (os ++ ps) ≡ run ws (run ws st os) ps
run_append ws [] ps st = refl
run_append ws (o ∷ os) ps st = run_append ws os ps (next ws st o)

-- and fit where both do
append_fits : (os ps : List Operation) → OperationsFit os → OperationsFit ps → OperationsFit (os ++ ps)
append_fits [] ps h k = k
append_fits (delivering s r ∷ os) ps h k = (h.0, append_fits os ps h.1 k)
append_fits (striking j ∷ os) ps h k = append_fits os ps h k

-- one line's book is the one that its call leaves, if it asks for one, where the book holds as many entries as the history has
module _ (ws : List ℕ) (st : State) (k : ℕ) (same : length (booked ws st.book) ≡ length st.history) where
  answered_run : (x : Option Line) → (answered ws st.book k x).book ≡ (run ws st (operation_of (length st.history) x)).book
  unfolding strike_from
  answered_run (Some (Deliver s r)) = refl
  answered_run (Some (Strike j)) = refl
  answered_run (Some (StrikeFrom j m)) =
      rw same
      (by-test (λ (os : List Operation). cond (eqb (length st.history) m) (strike ws st.book j).book st.book ≡ (run ws st os).book)
      (eqb (length st.history) m) (λ t. rw t) (λ t. rw t))
  answered_run (Some Redraw) = refl
  answered_run (Some Passed) = refl
  answered_run None = refl

-- ---- a number that is read is below 2^64

-- a whole number that may be at most 2^64 - 1
number_below : (b v : ℕ) (l : List ℕ) → number b (2 ^ 64 - 1) l ≡ Some v → v < 2 ^ 64
number_below b v l e = omega (arith, number_within b (2 ^ 64 - 1) v l e)

-- the bits of a binary64 are 64
nearest_below : (a b : ℕ) → nearest_bits a b < 2 ^ 64
unfolding nearest_bits
nearest_below a b = to_bits-lt binary64 (round binary64 false a b) (round-fits binary64 false a b)

-- the bits of a float, by its hexadecimal digits or by a decimal
float_below : (v : ℕ) (l : List ℕ) → float_bits l ≡ Some v → v < 2 ^ 64
unfolding float_bits decimal_bits
float_below v l =
    let P : Option ℕ → Type 0 = λ x. x ≡ Some v → v < 2 ^ 64 in
    by-test P (is_hexadecimal l) (λ _ e. number_below 16 v (drop 2 l) e)
    (λ _. by-test P (is_decimal l && is_short l)
    (λ _ e. let q : nearest_bits (whole_of l) (10 ^ places_of l) ≡ v = cc in rw (← q) (nearest_below (whole_of l) (10 ^ places_of l)))
    (λ _ e. let z : ◌≡◌ {A = ℕ} 0 1 = cc in absurd (omega arith)))

-- a number's two cases, with what was read
by_number : {X : Type 0} (P : X → Type 0) (n : Option ℕ) {f : ℕ → X} {x : X} → ((v : ℕ) → n ≡ Some v → P (f v)) → P x → P (on_number n f x)
by_number P (Some v) g h = g v refl
by_number P None g h = h

-- ---- so a request that is read fits

-- a line's request, if it has one, has parameters of 64 bits
abbrev LineFits : Option Line → Type 0
LineFits (Some (Deliver s r)) = RequestFits r
LineFits (Some (Strike j)) = Unit
LineFits (Some (StrikeFrom j m)) = Unit
LineFits (Some Redraw) = Unit
LineFits (Some Passed) = Unit
LineFits None = Unit

-- and so has its call
operation_fits : (n : ℕ) (x : Option Line) → LineFits x → OperationsFit (operation_of n x)
operation_fits n (Some (Deliver s r)) f = (f, tt)
operation_fits n (Some (Strike j)) f = tt
operation_fits n (Some (StrikeFrom j m)) f = by-test OperationsFit (eqb n m) (λ _. tt) (λ _. tt)
operation_fits n (Some Redraw) f = tt
operation_fits n (Some Passed) f = tt
operation_fits n None f = tt

-- the same of what f makes a line of
abbrev FitsBy : {X : Type 0} → (X → Option Line) → X → Type 0
FitsBy f x = LineFits (f x)

module _ (l : List ℕ) where
  -- the request of a delivery, of each kind
  request_fits : (s : ℕ) → LineFits (on_asked (request_asked l) (λ (r : Request). Some (Deliver s r)) None)
  unfolding request_asked tray_asked poisson_asked geometric_asked numbered kind_of parameters_of
  request_fits s =
      let P = FitsBy (λ a. on_asked a (λ (r : Request). Some (Deliver s r)) None) in
      by-test P (is_form 6 2 hypergeometric_text l)
      (λ _. by_number P (number_at 3 l)
      (λ N a. by_number P (number_at 4 l)
      (λ K b. by_number P (number_at 5 l)
      (λ n c. (number_below 10 N (word 3 l) a, (number_below 10 K (word 4 l) b, (number_below 10 n (word 5 l) c, tt)))) tt) tt) tt)
      (λ _. by-test P (is_form 4 2 poisson_text l) (λ _. by_number P (float_bits (word 3 l)) (λ v e. (float_below v (word 3 l) e, tt)) tt)
      (λ _. by-test P (is_form 4 2 geometric_text l) (λ _. by_number P (float_bits (word 3 l)) (λ v e. (float_below v (word 3 l) e, tt)) tt)
      (λ _. by-test P (is_form 3 2 standard_text l) (λ _. tt) (λ _. tt))))

  -- either strike has none
  strike_fits : LineFits (any_strike_line l)
  unfolding any_strike_line strike_from_line strike_line
  strike_fits =
      by-test LineFits (is_form 4 2 from_text l)
      (λ _. by_number LineFits (number_at 1 l) (λ j _. by_number LineFits (number_at 3 l) (λ m _. tt) tt) tt)
      (λ _. by-test LineFits (eqb (words l) 2) (λ _. by_number LineFits (number_at 1 l) (λ j _. tt) tt) (λ _. tt))

  -- every text: only a delivery has a request
  text_fits : LineFits (read_text l)
  unfolding read_text call_line deliver_line redraw_line
  text_fits =
      by-test LineFits (ltb 255 (length l)) (λ _. tt)
      (λ _. by-test LineFits (is_passed l) (λ _. tt)
      (λ _. by-test LineFits (same_text (word 0 l) deliver_text) (λ _. by_number LineFits (number 10 (2 ^ 32 - 1) (word 1 l)) (λ s _. request_fits s) tt)
      (λ _. by-test LineFits (same_text (word 0 l) strike_text) (λ _. strike_fits)
      (λ _. by-test LineFits (same_text (word 0 l) redraw_text) (λ _. by-test LineFits (eqb (words l) 1) (λ _. tt) (λ _. tt)) (λ _. tt)))))

-- and so every line
line_fits : (l : List ℕ) → LineFits (read_line l)
unfolding read_line
line_fits l = by-test LineFits (is_line l) (λ _. text_fits (text_of l)) (λ _. tt)

-- ---- so demand 3 is kept by lines one after another

module _ (ws : List ℕ) (n : ℕ) where
  abbrev empty : State
  empty = state (replicate n 0) []

  -- after calls that fit, lines leave the book that they and the calls before them leave
  served_kept : (ls : List (List ℕ)) (os : List Operation) → OperationsFit os → (k : ℕ) (c : List ℕ) → ServedAll ws (run ws empty os).book k ls c
      → Kept ws n (state c (after_lines ws (run ws empty os) ls).history)
  unfolding serve
  served_kept [] os fit k c s = rw (← s) (all_kept ws n os fit)
  served_kept (l ∷ ls) os fit k c s =
      let st : State = run ws empty os in
      let ps : List Operation = operation_of (length st.history) (read_line l) in
      let on : run ws empty (os ++ ps) ≡ run ws st ps = run_append ws os ps empty in
      let left : s.0 ≡ (run ws st ps).book = s.1.0.allowed.leaves ∙ answered_run ws st k (run_agrees ws n os fit) (read_line l) in
      rw on at
      (served_kept ls (os ++ ps) (append_fits os ps fit (operation_fits (length st.history) (read_line l) (line_fits l))) (suc k) c (rw (on, ← left) s.1.1))

pub lines_kept : LinesKept
lines_kept ws n k ls c s = served_kept ws n ls [] tt k c s
