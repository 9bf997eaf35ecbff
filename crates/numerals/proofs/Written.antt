-- What is written is read: a number's digits are read as it. Assumes nothing.
use Rattle.std.specs.Prelude.{Some}
use mathlib.Core.Path.{◌≡◌, refl, sym}
use mathlib.Core.Bool.{true, false, ◌&&◌, and_assoc}
use mathlib.Core.List.{List, [], ◌∷◌, ◌++◌}
use Prim.Native.Nat.{ℕ, zero, suc, ◌+◌, ◌*◌, ◌/◌, ◌%◌, ◌^◌, ◌≤◌, ◌<◌}
use native.Mathlib.Nat.{pow-suc}
use native.Mathlib.Omega.{arith}
use borrow.Author.Tests.{lt-ltb, le-leb}
use lib.Dec.{ltb}
use Rattle.writing.specs.Digits.{decimal_of, decimal}
use Rattle.writing.proofs.Writing.{by_size}
use Rattle.numerals.specs.Digits.{digit_of, are_digits, spells, continued, is_empty, number}
use Rattle.numerals.proofs.Reading.{spells_append}

-- a digit's byte stands for it
digit_byte : (d : ℕ) → d < 10 → digit_of (48 + d) ≡ d
unfolding digit_of
digit_byte d h = rw (le-leb 48 (48 + d) (omega arith), le-leb (48 + d) 57 (omega arith)) (omega arith)

-- a text is digits where both its parts are
digits_append : (b : ℕ) (xs ys : List ℕ) → are_digits b (xs ++ ys) ≡ (are_digits b xs && are_digits b ys)
unfolding are_digits
digits_append b [] ys = refl
digits_append b (x ∷ xs) ys = rw (digits_append b xs ys) (sym (and_assoc (ltb (digit_of x) b) (are_digits b xs) (are_digits b ys)))

-- a text with a last byte is not empty
some_last : (xs : List ℕ) (y : ℕ) → is_empty (xs ++ (y ∷ [])) ≡ false
some_last [] y = refl
some_last (x ∷ xs) y = refl

-- a text of digits, one or more, that spell a number
record Spelt (n : ℕ) (l : List ℕ) : Type 0 where
  some : is_empty l ≡ false
  digits : are_digits 10 l ≡ true
  spell : spells 10 0 l ≡ n

-- such a text is read as it
spelt_read : (n m : ℕ) (l : List ℕ) → n ≤ m → Spelt n l → number 10 m l ≡ Some n
unfolding number continued
spelt_read n m l h s = rw (s.some, s.digits, s.spell, le-leb n m h)

-- one digit spells itself
spelt_one : (n : ℕ) → n < 10 → Spelt n ((48 + n) ∷ [])
unfolding are_digits spells
spelt_one n h = record { some = refl; digits = rw (digit_byte n h, lt-ltb n 10 h); spell = rw (digit_byte n h) (omega arith) }

-- one digit more spells ten times as much and itself
spelt_next : (n d : ℕ) (l : List ℕ) → d < 10 → Spelt n l → Spelt (10 * n + d) (l ++ ((48 + d) ∷ []))
unfolding are_digits spells
spelt_next n d l h s = record {
  some = some_last l (48 + d);
  digits = rw (digits_append, s.digits, digit_byte d h, lt-ltb d 10 h);
  spell = rw (spells_append, s.spell, digit_byte d h);
}

-- a number's digits spell it
spelt_of : (k n : ℕ) → n < 10 ^ suc k → Spelt n (decimal_of (suc k) n)
spelt_of zero n h = by_size (Spelt n) zero n (spelt_one n) (λ m. absurd (omega arith))
spelt_of (suc k) n h =
    by_size (Spelt n) (suc k) n (spelt_one n)
    (λ m. let e : 10 * (n / 10) + n % 10 ≡ n = omega arith in
    rw e at (spelt_next (n / 10) (n % 10) (decimal_of (suc k) (n / 10)) (omega arith) (spelt_of k (n / 10) (omega (arith, pow-suc 10 (suc k))))))

-- what is written is read
pub decimal_reads : (n m : ℕ) → n < 10 ^ 20 → n ≤ m → number 10 m (decimal n) ≡ Some n
unfolding decimal
decimal_reads n m h g = spelt_read n m (decimal_of 20 n) g (spelt_of 19 n h)
