-- Laws of zero bytes. Assumes nothing.
use mathlib.Core.Path.{◌≡◌, refl, sym, ap, ◌∙◌}
use mathlib.Core.Bool.{Bool, true, false, ◌&&◌}
use mathlib.Core.List.{List, [], ◌∷◌, ◌++◌, append-nil, append_assoc}
use Prim.Native.Nat.{ℕ, zero, suc, ◌+◌, ◌-◌, ◌<◌, ◌≤◌}
use native.Mathlib.Numerals.{add-one}
use native.Mathlib.Omega.{arith}
use borrow.Rule.Slice.PartMut.{put_mid}
use lib.Dec.{eqb, eqb-suc-zero}
use lib.ListN.{get_or, drop, take, length, replicate, drop_of_length-le, take-append-drop}
use lib.Seq.{drop-drop, drop-cons}
use borrow.Author.Tests.{ne_eqb}
use Rattle.std.specs.List.{list_all}
use Rattle.bytes_le.specs.Zeros.{all_zero, wiped}

pub zeros_are : (n : ℕ) → all_zero (replicate n 0) ≡ true
unfolding all_zero
zeros_are zero = refl
zeros_are (suc n) = zeros_are n

pub are_zeros : (l : List ℕ) → all_zero l ≡ true → l ≡ replicate (length l) 0
unfolding all_zero
are_zeros [] e = refl
are_zeros (zero ∷ xs) e = ap (λ (r : List ℕ). 0 ∷ r) (are_zeros xs e)
are_zeros (suc x ∷ xs) e =
    let e' : false ≡ true = rw eqb-suc-zero at e in
    let z : ◌≡◌ {A = ℕ} 0 1 = cc in
    absurd (omega arith)

-- ---- a turn of the loop that tests

module _ (l : List ℕ) (i : ℕ) where
  first_tested : i < length l → all_zero (drop i l) ≡ eqb (get_or l i 0) 0 && all_zero (drop (suc i) l)
  unfolding all_zero
  first_tested h = ap all_zero (drop-cons l i 0 h)

  pub zero_yes : i < length l → get_or l i 0 ≡ 0 → all_zero (drop i l) ≡ all_zero (drop (i + 1) l)
  zero_yes h e = rw (first_tested h, e, add-one)

  pub zero_no : i < length l → (get_or l i 0 ≡ 0 → ⊥) → all_zero (drop i l) ≡ false
  zero_no h e = rw (first_tested h, ne_eqb (get_or l i 0) 0 e)

  pub zero_all : length l ≤ i → all_zero (drop i l) ≡ true
  unfolding all_zero
  zero_all h = rw (drop_of_length-le l h)

-- the test of every byte is the definition's
pub each_zero : (l : List ℕ) → list_all (λ x. eqb x 0) l ≡ all_zero l
unfolding all_zero
each_zero [] = refl
each_zero (x ∷ xs) = ap (λ (b : Bool). eqb x 0 && b) (each_zero xs)

-- a part that is put back as zeros
pub part_wiped : (l : List ℕ) (i j : ℕ) → i ≤ j → put_mid i (j - i) l (replicate (j - i) 0) ≡ wiped i j l
unfolding wiped
part_wiped l i j h =
    let n : i + (j - i) ≡ j = omega arith in
    rw (drop-drop (j - i) i l, n) (sym (append_assoc (take i l) (replicate (j - i) 0) (drop j l)))

-- nothing wiped
pub wipe_done : (l d : List ℕ) (i j : ℕ) → i ≤ j → j ≤ i → wiped i j l ≡ d → l ≡ d
unfolding wiped
wipe_done l d i j h h' e =
    let n : j - i ≡ 0 = omega arith in
    let same : j ≡ i = omega arith in
    sym (take-append-drop i l) ∙ ap (λ (x : List ℕ). x ++ drop i l) (sym (append-nil (take i l))) ∙ rw (n, same) at e
