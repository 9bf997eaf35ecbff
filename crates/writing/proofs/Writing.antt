-- Laws of what is written: texts one after another are one text, and a number's digits are few. Assumes nothing.
use mathlib.Core.Path.{◌≡◌, sym, ap, ap₂, ◌∙◌}
use mathlib.Core.Logic.{⊎_elim}
use mathlib.Core.List.{List, [], ◌∷◌, ◌++◌}
use Prim.Native.Nat.{ℕ, zero, suc, ◌+◌, ◌/◌, ◌%◌, ◌^◌, ◌≤◌, ◌<◌}
use native.Mathlib.Nat.{pow-suc, eq-zero-or-pos}
use native.Mathlib.Omega.{arith}
use borrow.Author.Tests.{lt-ltb, le-ltb}
use lib.ListN.{length, take, length-append}
use lib.Seq.{sets, sets-eq, length-sets, take-append_seam}
use Rattle.bytes_le.proofs.Runs.{sets_append}
use Rattle.writing.specs.Digits.{decimal_of, decimal}
use Rattle.writing.specs.Writing.{Writes}

-- ---- texts

-- a text written right after another makes one text with it
pub written_next : (l m d : List ℕ) (i j k : ℕ) (xs ys : List ℕ) → Writes l i xs m j → Writes m j ys d k → Writes l i (xs ++ ys) d k
written_next l m d i j k xs ys p q = record {
  bytes = q.bytes ∙ ap₂ (λ (b : List ℕ) (n : ℕ). sets b n ys) p.bytes p.place ∙ sym (sets_append l i xs ys);
  place = omega (arith, length-append xs ys, p.place, q.place);
  room = omega (arith, q.room, ap length p.bytes, length-sets l i xs);
}

-- what was written at the front is read there
pub written_whole : (l t : List ℕ) → length t ≤ length l → take (length t) (sets l 0 t) ≡ t
written_whole l t h = ap (take (length t)) (sets-eq t l 0 (omega arith)) ∙ take-append_seam t _

-- the place after a text lies within the bytes that it was written to
pub written_within : {l t m : List ℕ} {i j : ℕ} → Writes l i t m j → j ≤ length m
written_within {l} {t} {m} {i} w = omega (arith, w.room, ap length w.bytes, length-sets l i t)

-- ---- a number's digits

-- a number below 10 is one digit
of_small : (k n : ℕ) → n < 10 → decimal_of (suc k) n ≡ (48 + n) ∷ []
unfolding decimal_of
of_small k n h = let e : n % 10 ≡ n = omega arith in rw (lt-ltb n 10 h, e)

-- any other is the digits of its tenth, and one more
of_more : (k n : ℕ) → 10 ≤ n → decimal_of (suc k) n ≡ decimal_of k (n / 10) ++ ((48 + n % 10) ∷ [])
unfolding decimal_of
of_more k n h = rw (le-ltb n 10 h)

-- so what is shown in these two cases holds of a number's digits
pub by_size : (P : List ℕ → Type 0) (k n : ℕ) → (n < 10 → P ((48 + n) ∷ [])) → (10 ≤ n → P (decimal_of k (n / 10) ++ ((48 + n % 10) ∷ []))) → P (decimal_of (suc k) n)
by_size P k n f g =
    ⊎_elim (λ e. rw (of_small k n (omega arith)) (f (omega arith))) (λ p. rw (of_more k n (omega arith)) (g (omega arith))) (eq-zero-or-pos (n / 10))

-- a number below 10^(k + 1) has at most k + 1 digits, whatever the bound j on them
length_of : (j k n : ℕ) → n < 10 ^ suc k → length (decimal_of j n) ≤ suc k
unfolding decimal_of
length_of zero k n h = omega arith
length_of (suc j) zero n h = by_size (λ (l : List ℕ). length l ≤ 1) j n (λ s. omega arith) (λ m. absurd (omega arith))
length_of (suc j) (suc k) n h =
    by_size (λ (l : List ℕ). length l ≤ suc (suc k)) j n (λ s. omega arith)
    (λ m. rw length-append (omega (arith, length_of j k (n / 10) (omega (arith, pow-suc 10 (suc k))))))

-- two bounds that the number keeps give the same digits
same : (j k n : ℕ) → n < 10 ^ suc j → n < 10 ^ suc k → decimal_of (suc j) n ≡ decimal_of (suc k) n
same zero k n p q = of_small zero n (omega arith) ∙ sym (of_small k n (omega arith))
same (suc j) zero n p q = of_small (suc j) n (omega arith) ∙ sym (of_small zero n (omega arith))
same (suc j) (suc k) n p q =
    by_size (λ (l : List ℕ). l ≡ decimal_of (suc (suc k)) n) (suc j) n (λ s. sym (of_small (suc k) n s))
    (λ m. ap (λ (l : List ℕ). l ++ ((48 + n % 10) ∷ [])) (same j k (n / 10) (omega (arith, pow-suc 10 (suc j))) (omega (arith, pow-suc 10 (suc k)))) ∙ sym (of_more (suc k) n m))

-- a number below 10^k has at most k digits
pub length_decimal : (n k : ℕ) → 0 < k → n < 10 ^ k → length (decimal n) ≤ k
unfolding decimal
length_decimal n zero p h = absurd (omega arith)
length_decimal n (suc k) p h = length_of 20 k n h

-- the two cases again, without the bound: below 10^20 it decides nothing
pub decimal_small : (n : ℕ) → n < 10 → decimal n ≡ (48 + n) ∷ []
unfolding decimal
decimal_small n h = of_small 19 n h

pub decimal_more : (n : ℕ) → 10 ≤ n → n < 10 ^ 20 → decimal n ≡ decimal (n / 10) ++ ((48 + n % 10) ∷ [])
unfolding decimal
decimal_more n m h = of_more 19 n m ∙ ap (λ (l : List ℕ). l ++ ((48 + n % 10) ∷ [])) (same 18 19 (n / 10) (omega arith) (omega arith))

-- the last of them takes one byte
pub length_more : (n : ℕ) → 10 ≤ n → n < 10 ^ 20 → length (decimal n) ≡ length (decimal (n / 10)) + 1
length_more n m h = ap length (decimal_more n m h) ∙ length-append (decimal (n / 10)) ((48 + n % 10) ∷ [])
