-- The rules' reading of an answer loses nothing: equal readings, equal answers. So a contract `paper r ≡ ..` leaves one answer. Assumes nothing.
use mathlib.Core.Path.{◌≡◌, refl, sym, ap, ◌∙◌, subst}
use mathlib.Core.Bool.{Bool, true, ◌&&◌}
use mathlib.Core.List.{List, [], ◌∷◌}
use Prim.Native.Nat.{ℕ, zero, suc}
use native.Mathlib.Omega.{arith}
use lib.Dec.{T, ltb, ltb→lt}
use lib.Ieee.Fits.{and_l, and_r}
use lib.ListN.{get_or}
use Rattle.std.proofs.Common.{Ok, Err}
use Rattle.words.specs.declared.Draw.{Draw}
use Rattle.words.specs.declared.Refusal.{Refusal}
use Rattle.words.specs.declared.Refusal.TheVariants.{TapeTooLong, PopulationTooLarge, ProbabilityTooLarge, SampleSizeTooLarge, CapExceeded, ModeTooHigh, ThresholdOutside, InvalidProbability, TooRare, Exhausted, BookTooLong, BookDamaged, SerialAhead, SerialReused, BookFull, StrikeTooMany, RedrawDiffers, MeanOutside}
use Rattle.words.specs.Outcome.{Outcome, drawn, refused}
use Rattle.words.specs.Paper.{Answer, number_of, paper}
use Rattle.words.specs.Inner.{drew}

-- the refusals in the order of their numbers, any of them at 0
abbrev named : List Refusal
named =
    Exhausted ∷ TapeTooLong ∷ PopulationTooLarge ∷ ProbabilityTooLarge ∷ SampleSizeTooLarge ∷ CapExceeded ∷ ModeTooHigh ∷ ThresholdOutside
    ∷ InvalidProbability ∷ TooRare ∷ Exhausted ∷ BookTooLong ∷ BookDamaged ∷ SerialAhead ∷ SerialReused ∷ BookFull ∷ StrikeTooMany
    ∷ RedrawDiffers ∷ MeanOutside ∷ []

abbrev name_of : ℕ → Refusal
name_of n = get_or named n Exhausted

name_of_number : (x : Refusal) → name_of (number_of x) ≡ x
name_of_number TapeTooLong = refl
name_of_number PopulationTooLarge = refl
name_of_number ProbabilityTooLarge = refl
name_of_number SampleSizeTooLarge = refl
name_of_number CapExceeded = refl
name_of_number ModeTooHigh = refl
name_of_number ThresholdOutside = refl
name_of_number InvalidProbability = refl
name_of_number TooRare = refl
name_of_number Exhausted = refl
name_of_number BookTooLong = refl
name_of_number BookDamaged = refl
name_of_number SerialAhead = refl
name_of_number SerialReused = refl
name_of_number BookFull = refl
name_of_number StrikeTooMany = refl
name_of_number RedrawDiffers = refl
name_of_number MeanOutside = refl

-- ---- what is computed of each refusal in that list holds of every refusal

abbrev all_of : (Refusal → Bool) → List Refusal → Bool
all_of t [] = true
all_of t (x ∷ xs) = t x && all_of t xs

at_place : (t : Refusal → Bool) (xs : List Refusal) (n : ℕ) (d : Refusal) → T (t d) → T (all_of t xs) → T (t (get_or xs n d))
at_place t [] n d k h = k
at_place t (x ∷ xs) zero d k h = and_l (t x) (all_of t xs) h
at_place t (x ∷ xs) (suc n) d k h = at_place t xs n d k (and_r (t x) (all_of t xs) h)

pub of_each : (t : Refusal → Bool) → T (all_of t named) → (x : Refusal) → T (t x)
of_each t h x = subst (λ (y : Refusal). T (t y)) (name_of_number x) (at_place t named (number_of x) Exhausted (and_l (t Exhausted) _ h) h)

-- no refusal has the number 0
pub never_zero : (x : Refusal) → number_of x ≡ 0 → ⊥
never_zero x e = omega (arith, ltb→lt 0 (number_of x) (of_each (λ y. ltb 0 (number_of y)) tt x))

-- ---- one answer

-- two refusals with one number are one refusal
pub one_refusal : (x y : Refusal) → number_of x ≡ number_of y → x ≡ y
one_refusal x y e = sym (name_of_number x) ∙ ap name_of e ∙ name_of_number y

-- two draws with one count and as many words used are one draw
pub one_draw : (c d : Draw) → c.count ≡ d.count → c.used ≡ d.used → c ≡ d
one_draw c d e f = λ i. drew (e i) (f i)

abbrev back : Outcome ℕ → Answer
back (drawn c u) = Ok (drew c u)
back (refused n) = Err (name_of n)

back_of_paper : (a : Answer) → back (paper a) ≡ a
back_of_paper (Ok d) = refl
back_of_paper (Err x) = ap Err (name_of_number x)

pub one_answer : (a b : Answer) → paper a ≡ paper b → a ≡ b
one_answer a b e = sym (back_of_paper a) ∙ ap back e ∙ back_of_paper b
