-- Laws of a line as it is written, word by word. Assumes nothing.
use mathlib.Core.Path.{◌≡◌}
use mathlib.Core.List.{List, [], ◌∷◌, ◌++◌}
use Prim.Native.Nat.{ℕ, ◌+◌}
use native.Mathlib.Omega.{arith}
use lib.ListN.{length, length-append}
use lib.Seq.{append_snoc}
use Rattle.writing.specs.Digits.{decimal}
use Rattle.writing.specs.Writing.{Writes}
use Rattle.writing.proofs.Writing.{written_next}
use Rattle.lines.specs.Lines.{line}

-- a word and its space, and after them the rest of the line
pub word_next : {l m d : List ℕ} {i j k : ℕ} (w v : List ℕ) (ws : List (List ℕ)) → Writes l i (w ++ (32 ∷ [])) m j
    → Writes m j (line (v ∷ ws)) d k → Writes l i (line (w ∷ v ∷ ws)) d k
unfolding line
word_next w v ws p q = rw append_snoc at (written_next _ _ _ _ _ _ (w ++ (32 ∷ [])) (line (v ∷ ws)) p q)

-- a line's last two words, the first with its space and the second with its newline
pub last_words : {l m : List ℕ} {i j : ℕ} (w v : List ℕ) → Writes l i ((w ++ (32 ∷ [])) ++ (v ++ (10 ∷ []))) m j → Writes l i (line (w ∷ v ∷ [])) m j
unfolding line
last_words w v p = rw append_snoc at p

-- a number and the byte that ends it
pub number_length : (n e : ℕ) → length (decimal n ++ (e ∷ [])) ≡ length (decimal n) + 1
number_length n e = length-append (decimal n) (e ∷ [])

-- the place after a number and the byte that ends it
pub number_place : {l m : List ℕ} {i j : ℕ} (n e : ℕ) → Writes l i (decimal n ++ (e ∷ [])) m j → j ≡ i + length (decimal n) + 1
number_place n e w = omega (arith, w.place, number_length n e)
