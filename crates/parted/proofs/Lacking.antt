-- Text that has no byte s, parted at s, with and without one after it. Assumes nothing.
use mathlib.Core.Path.{◌≡◌, refl, ap}
use mathlib.Core.Bool.{Bool, true, false, not, ◌&&◌}
use mathlib.Core.List.{List, [], ◌∷◌, ◌++◌}
use Prim.Native.Nat.{ℕ}
use native.Mathlib.Numerals.{one-add}
use lib.Dec.{T, eqb}
use lib.Ieee.Fits.{and_l, and_r}
use denote.Floats.{is_true}
use borrow.Author.Tests.{eq-eqb, not-true}
use Rattle.numerals.specs.Split.{index_of, up_to, past}

abbrev pub lacks : ℕ → List ℕ → Bool
lacks s [] = true
lacks s (x ∷ xs) = not (eqb x s) && lacks s xs

module _ (s : ℕ) where
  -- its first byte is none, and the others have none
  module _ (x : ℕ) (xs : List ℕ) (t : T (lacks s (x ∷ xs))) where
    other : eqb x s ≡ false
    other = not-true (eqb x s) (is_true (not (eqb x s)) (and_l (not (eqb x s)) (lacks s xs) t))

    others : T (lacks s xs)
    others = and_r (not (eqb x s)) (lacks s xs) t

  -- all of it stands before the first s, and after that what comes next
  pub up_to_first : (w l : List ℕ) → T (lacks s w) → up_to s (w ++ s ∷ l) ≡ w
  unfolding up_to index_of
  up_to_first [] l t = rw (eq-eqb s s refl)
  up_to_first (x ∷ xs) l t = rw (other x xs t, one-add) (ap (λ (r : List ℕ). x ∷ r) (up_to_first xs l (others x xs t)))

  pub past_first : (w l : List ℕ) → T (lacks s w) → past s (w ++ s ∷ l) ≡ l
  unfolding past index_of
  past_first [] l t = rw (eq-eqb s s refl)
  past_first (x ∷ xs) l t = rw (other x xs t, one-add) (past_first xs l (others x xs t))

  -- where there is none at all, all of it, and nothing
  pub up_to_none : (w : List ℕ) → T (lacks s w) → up_to s w ≡ w
  unfolding up_to index_of
  up_to_none [] t = refl
  up_to_none (x ∷ xs) t = rw (other x xs t, one-add) (ap (λ (r : List ℕ). x ∷ r) (up_to_none xs (others x xs t)))

  pub past_none : (w : List ℕ) → T (lacks s w) → past s w ≡ []
  unfolding past index_of
  past_none [] t = refl
  past_none (x ∷ xs) t = rw (other x xs t, one-add) (past_none xs (others x xs t))

  -- two such texts, one after the other
  pub lacks_append : (w v : List ℕ) → T (lacks s w) → T (lacks s v) → T (lacks s (w ++ v))
  lacks_append [] v t u = u
  lacks_append (x ∷ xs) v t u = rw (other x xs t) (lacks_append xs v (others x xs t) u)
