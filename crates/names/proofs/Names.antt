-- Laws of the table of names: what is computed of it, and that the word of a number in the text of all names is that number's name. Assumes
-- nothing.
use mathlib.Core.Path.{◌≡◌, refl, ap, ◌∙◌}
use mathlib.Core.Bool.{Bool, true, false, cond, ◌&&◌}
use mathlib.Core.List.{List, [], ◌∷◌, ◌++◌, append-nil}
use Prim.Native.Nat.{ℕ, zero, suc, ◌+◌, ◌≤◌}
use native.Mathlib.Omega.{arith}
use lib.Dec.{T, eqb, leb, leb→le, eqb→eq}
use lib.Ieee.Fits.{and_l, and_r}
use lib.ListN.{length}
use borrow.Author.Tests.{eq-eqb, ne_eqb}
use Rattle.numerals.specs.Split.{up_to, past}
use Rattle.parted.specs.Parts.{space, past_words, word}
use Rattle.parted.proofs.Lacking.{lacks, up_to_first, up_to_none, past_first, past_none}
use Rattle.words.specs.Paper.{number_of}
use Rattle.names.specs.Names.{Named, names, name_in, name_of}

-- ---- the test: rows from the number s on, one by one, each with a name of at most m letters and no space

abbrev is_row : ℕ → ℕ → Named → Bool
is_row m s r = eqb (number_of r.refusal) s && (lacks space r.name && leb (length r.name) m)

abbrev in_order : ℕ → ℕ → List Named → Bool
in_order m s [] = true
in_order m s (r ∷ rs) = is_row m s r && in_order m (suc s) rs

names_in_order : T (in_order 19 1 names)
names_in_order = tt

-- what a row that passes it has
module _ (m s : ℕ) (r : Named) (t : T (is_row m s r)) where
  its_number : number_of r.refusal ≡ s
  its_number = eqb→eq (number_of r.refusal) s (and_l (eqb (number_of r.refusal) s) _ t)

  its_letters : T (lacks space r.name && leb (length r.name) m)
  its_letters = and_r (eqb (number_of r.refusal) s) _ t

  no_space : T (lacks space r.name)
  no_space = and_l (lacks space r.name) (leb (length r.name) m) its_letters

  its_length : length r.name ≤ m
  its_length = leb→le (length r.name) m (and_r (lacks space r.name) (leb (length r.name) m) its_letters)

-- ---- how long a name is

either_short : (m : ℕ) (x : Bool) (t u : List ℕ) → length t ≤ m → length u ≤ m → length (cond x t u) ≤ m
either_short m true t u h k = h
either_short m false t u h k = k

found_short : (m s n : ℕ) (rs : List Named) → T (in_order m s rs) → length (name_in rs n) ≤ m
found_short m s n [] t = omega arith
found_short m s n (r ∷ rs) t =
    either_short m (eqb (number_of r.refusal) n) r.name (name_in rs n) (its_length m s r (and_l (is_row m s r) (in_order m (suc s) rs) t))
    (found_short m (suc s) n rs (and_r (is_row m s r) (in_order m (suc s) rs) t))

pub name_short : (n : ℕ) → length (name_of n) ≤ 19
unfolding name_of
name_short n = found_short 19 1 n names names_in_order

-- ---- the names as one text, each after a space

abbrev pub joined : List Named → List ℕ
joined [] = []
joined (r ∷ rs) = space ∷ (r.name ++ joined rs)

-- a text without a space before names is their first word; past it the names begin, or nothing is left
first_word : (w : List ℕ) (rs : List Named) → T (lacks space w) → up_to space (w ++ joined rs) ≡ w
first_word w [] t = ap (up_to space) (append-nil w) ∙ up_to_none space w t
first_word w (r ∷ rs) t = up_to_first space w (r.name ++ joined rs) t

past_last : (w : List ℕ) → T (lacks space w) → past space (w ++ []) ≡ []
past_last w t = ap (past space) (append-nil w) ∙ past_none space w t

no_words : (k : ℕ) → past_words k [] ≡ []
unfolding past_words past
no_words zero = refl
no_words (suc k) = no_words k

-- so the words after it are the rows' names, by their numbers
word_named : (m k s : ℕ) (w : List ℕ) (rs : List Named) → T (lacks space w) → T (in_order m s rs) → word (suc k) (w ++ joined rs) ≡ name_in rs (s + k)
unfolding word past_words
word_named m k s w [] t o = rw (past_last w t, no_words k) (first_word [] [] tt)
word_named m zero s w (r ∷ rs) t o =
    let row : T (is_row m s r) = and_l (is_row m s r) (in_order m (suc s) rs) o in
    rw (past_first space w (r.name ++ joined rs) t, eq-eqb (number_of r.refusal) (s + 0) (omega (arith, its_number m s r row)))
    (first_word r.name rs (no_space m s r row))
word_named m (suc k) s w (r ∷ rs) t o =
    let row : T (is_row m s r) = and_l (is_row m s r) (in_order m (suc s) rs) o in
    let next : suc s + k ≡ s + suc k = omega arith in
    rw (past_first space w (r.name ++ joined rs) t, ne_eqb (number_of r.refusal) (s + suc k) (λ e. omega (arith, its_number m s r row)))
    (word_named m k (suc s) r.name rs (no_space m s r row) (and_r (is_row m s r) (in_order m (suc s) rs) o) ∙ ap (name_in rs) next)

-- of all names: the word of a number is its name
pub name_word : (n : ℕ) → word n (joined names) ≡ name_of n
unfolding word past_words name_of
name_word zero = first_word [] names tt
name_word (suc k) = let n : 1 + k ≡ suc k = omega arith in word_named 19 k 1 [] names tt names_in_order ∙ ap (name_in names) n
