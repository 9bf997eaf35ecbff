-- The words of a text are its parts between spaces, one after another, and lie past the words before them. Assumes nothing.
use mathlib.Core.Path.{◌≡◌, refl, sym, ap, ◌∙◌}
use mathlib.Core.Bool.{true, false}
use mathlib.Core.List.{List, [], ◌∷◌}
use mathlib.Core.Logic.{⊎_elim}
use Prim.Native.Nat.{ℕ, zero, suc, ◌+◌, ◌-◌, ◌≤◌, ◌<◌}
use native.Mathlib.Omega.{arith}
use native.Mathlib.Numerals.{one-add}
use lib.Dec.{eqb}
use lib.ListN.{get_or}
use Rattle.std.specs.List.{slice_split, onto_first}
use Rattle.std.proofs.lemmas.Bool.{cases_Bool}
use Rattle.numerals.specs.Split.{index_of, up_to, past}
use Rattle.parted.specs.Parts.{space, past_words, word}

-- no text has no words
no_words : (k : ℕ) → past_words k [] ≡ []
unfolding past_words past
no_words zero = refl
no_words (suc k) = no_words k

word_none : (k : ℕ) → word k [] ≡ []
unfolding word up_to index_of
word_none k = rw no_words

-- a byte more in the first part
first_more : (x : ℕ) (ps : List (List ℕ)) → get_or (onto_first x ps) 0 [] ≡ x ∷ get_or ps 0 []
first_more x [] = refl
first_more x (p ∷ ps) = refl

others_kept : (x : ℕ) (ps : List (List ℕ)) (k : ℕ) → get_or (onto_first x ps) (suc k) [] ≡ get_or ps (suc k) []
others_kept x [] k = refl
others_kept x (p ∷ ps) k = refl

-- a space ends a word, another byte belongs to one
module _ (x : ℕ) (xs : List ℕ) where
  word_ended : eqb x space ≡ true → word 0 (x ∷ xs) ≡ []
  unfolding word past_words up_to index_of
  word_ended e = rw e

  word_after : (k : ℕ) → eqb x space ≡ true → word (suc k) (x ∷ xs) ≡ word k xs
  unfolding word past_words past index_of
  word_after k e = rw e

  word_more : eqb x space ≡ false → word 0 (x ∷ xs) ≡ x ∷ word 0 xs
  unfolding word past_words up_to index_of
  word_more e = rw (e, one-add)

  word_next : (k : ℕ) → eqb x space ≡ false → word (suc k) (x ∷ xs) ≡ word (suc k) xs
  unfolding word past_words past index_of
  word_next k e = rw (e, one-add)

pub word_split : (k : ℕ) (l : List ℕ) → get_or (slice_split (λ x. eqb x space) l) k [] ≡ word k l
word_split zero [] = sym (word_none zero)
word_split (suc k) [] = sym (word_none (suc k))
word_split zero (x ∷ xs) =
    ⊎_elim (λ e. rw e (sym (word_ended x xs e)))
    (λ e. rw e (first_more x (slice_split (λ x. eqb x space) xs) ∙ ap (λ (w : List ℕ). x ∷ w) (word_split zero xs) ∙ sym (word_more x xs e)))
    (cases_Bool (eqb x space))
word_split (suc k) (x ∷ xs) =
    ⊎_elim (λ e. rw e (word_split k xs ∙ sym (word_after x xs k e)))
    (λ e. rw e (others_kept x (slice_split (λ x. eqb x space) xs) k ∙ word_split (suc k) xs ∙ sym (word_next x xs k e)))
    (cases_Bool (eqb x space))

-- the next of the words that are left
pub words_turn : (k i : ℕ) (l : List ℕ) → i < k → past_words (k - i) l ≡ past_words (k - (i + 1)) (past space l)
unfolding past_words
words_turn k i l h = let n : k - i ≡ suc (k - (i + 1)) = omega arith in rw n

-- none is left
pub words_end : (k i : ℕ) (l : List ℕ) → k ≤ i → past_words (k - i) l ≡ l
unfolding past_words
words_end k i l h = let n : k - i ≡ 0 = omega arith in rw n
