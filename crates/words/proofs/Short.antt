-- Laws of the refusals of a tape that is too short, whatever the list of them. Assumes nothing.
use mathlib.Core.Path.{◌≡◌, refl, sym, ap, ◌∙◌}
use mathlib.Core.Bool.{Bool, true, false, cond, ◌||◌, or-true, true≢false}
use mathlib.Core.List.{List, [], ◌∷◌}
use mathlib.Core.Logic.{inl, inr}
use Prim.Native.Nat.{ℕ}
use lib.Dec.{eqb}
use borrow.Author.Tests.{eq-eqb, ne_eqb, eqb-true}
use Rattle.words.specs.Outcome.{Outcome, drawn, refused}
use Rattle.words.specs.Refusals.{given, First, NoneHolds}
use Rattle.words.specs.Draw.{ends_by, endings}
use Rattle.words.specs.Inner.{is_on}

-- a number that is none of a list is not on it
abbrev pub NoneOf : ℕ → List ℕ → Type 0
NoneOf n [] = Unit
NoneOf n (m ∷ ms) = (n ≡ m → ⊥) × NoneOf n ms

pub not_on : (n : ℕ) (ms : List ℕ) → NoneOf n ms → is_on n ms ≡ false
unfolding is_on
not_on n [] h = refl
not_on n (m ∷ ms) h = rw (ne_eqb n m h.0) (not_on n ms h.1)

-- a reading that ended by n is refused by n
ends_is : {A : Type 0} (n : ℕ) (o : Outcome A) → ends_by n o ≡ true → o ≡ refused n
ends_is n (drawn a u) e = absurd (true≢false (sym e))
ends_is n (refused m) e = ap refused (eqb-true m n e)

-- these conditions speak of the reading itself, and change nothing
pub ends_same : {A : Type 0} (ns : List ℕ) (o : Outcome A) → given (endings ns o) o ≡ o
unfolding endings
ends_same [] o = refl
ends_same (n ∷ ns) o = go (ends_same ns o) (ends_by n o) refl
  where
    go : given (endings ns o) o ≡ o → (b : Bool) → ends_by n o ≡ b → cond b (refused n) (given (endings ns o) o) ≡ o
    go rest true t = sym (ends_is n o t)
    go rest false t = rest

-- none of them holds of a draw
pub none_ended : {A : Type 0} (ns : List ℕ) (a : A) (u : ℕ) → NoneHolds (endings ns (drawn a u))
unfolding endings
none_ended [] a u = tt
none_ended (n ∷ ns) a u = (refl, none_ended ns a u)

-- a reading that ended by a number of the list has the condition of that number for its first
pub ended_first : {A : Type 0} (ns : List ℕ) (o : Outcome A) (n : ℕ) → o ≡ refused n → is_on n ns ≡ true → First n (endings ns o)
unfolding endings is_on
ended_first [] o n r e = absurd (true≢false (sym e))
ended_first (m ∷ ms) o n r e = go (ended_first ms o n r) (eqb n m) refl e
  where
    go : (is_on n ms ≡ true → First n (endings ms o)) → (b : Bool) → eqb n m ≡ b → b || is_on n ms ≡ true → First n (endings (m ∷ ms) o)
    go rest true t x = inl (ap (ends_by m) r ∙ t, sym (eqb-true n m t))
    go rest false t x = inr (ap (ends_by m) r ∙ t, rest x)

-- and the other way round
on_first : (n m : ℕ) (ms : List ℕ) → m ≡ n → is_on n (m ∷ ms) ≡ true
unfolding is_on
on_first n m ms e = rw (eq-eqb n m (sym e))

on_rest : (n m : ℕ) (ms : List ℕ) → is_on n ms ≡ true → is_on n (m ∷ ms) ≡ true
unfolding is_on
on_rest n m ms e = ap (λ (b : Bool). eqb n m || b) e ∙ or-true (eqb n m)

pub first_ended : {A : Type 0} (ns : List ℕ) (o : Outcome A) (n : ℕ) → First n (endings ns o) → (is_on n ns ≡ true) × (o ≡ refused n)
unfolding endings
first_ended [] o n f = absurd f
first_ended (m ∷ ms) o n (inl h) = (on_first n m ms h.1, ends_is m o h.0 ∙ ap refused h.1)
first_ended (m ∷ ms) o n (inr h) = let r = first_ended ms o n h.1 in (on_rest n m ms r.0, r.1)
