-- Laws of text as it is read: digits and the number that they spell, text parted by a byte, and decimals. Assumes nothing.
use Rattle.std.specs.Prelude.{Option, Some, None}
use mathlib.Core.Path.{◌≡◌, refl, sym, ap, ◌∙◌}
use mathlib.Core.Bool.{Bool, true, false, cond, not, ◌&&◌, and-false, and-true}
use mathlib.Core.List.{List, [], ◌∷◌, ◌++◌}
use mathlib.Core.Logic.{◌⊎◌, inl, inr, ⊎_elim}
use Prim.Native.Nat.{ℕ, suc, ◌+◌, ◌*◌, ◌-◌, ◌^◌, ◌≤◌, ◌<◌}
use native.Mathlib.Nat.{le_refl, lt_of_lt_of_le, mul-le-mul_right}
use native.Mathlib.Numerals.{add-one}
use native.Mathlib.Omega.{arith}
use lib.Dec.{leb, eqb, leb→le}
use lib.Ieee.Fits.{and_l, and_r}
use denote.Floats.{passes, is_true}
use lib.Pointwise.{pointwise}
use lib.ListN.{length, get_or, take, drop, drop_of_length-le}
use lib.Seq.{take_all, drop-cons}
use borrow.Author.Tests.{lt-leb, le-leb, lt-ltb, le-ltb, leb-false, ltb-false, eq-eqb, ne_eqb}
use Rattle.std.specs.Char.{digit_value}
use Rattle.std.proofs.lemmas.Option.{cond_some}
use Rattle.std.proofs.lemmas.Bool.{and_cases}
use Rattle.std.proofs.lemmas.Bool.Decides.{eqb_tells}
use Rattle.std.proofs.lemmas.Grind.{common_steps}
use Rattle.numerals.specs.Split.{index_of, up_to, past, has}
use Rattle.numerals.specs.Digits.{digit_of, are_digits, spells, continued, is_empty, number}
use Rattle.numerals.specs.Decimal.{point, is_whole, is_decimal, whole_of, places_of, is_short, nearest_bits, decimal_bits, is_hexadecimal, float_bits}
use Rattle.numerals.specs.Inner.{placed}

-- ---- digits

-- std's value of a digit is what the digit stands for in any base up to 16
pub stands_for : (x b : ℕ) → b ≤ 16 → digit_value x < b → digit_value x ≡ digit_of x
unfolding digit_of
stands_for x b h k = grind (arith, common_steps)

pub stands_for_none : (x b : ℕ) → b ≤ 16 → b ≤ digit_value x → b ≤ digit_of x
unfolding digit_of
stands_for_none x b h k = grind (arith, common_steps)

-- ---- the number that digits spell

-- digits that go on make no number smaller
pub spells_rise : (b v : ℕ) (l : List ℕ) → 0 < b → v ≤ spells b v l
unfolding spells
spells_rise b v [] h = le_refl v
spells_rise b v (x ∷ xs) h = omega (arith, spells_rise b (b * v + digit_of x) xs h, mul-le-mul_right v h)

-- digits after digits go on from what those spell
pub spells_append : (b v : ℕ) (xs ys : List ℕ) → spells b v (xs ++ ys) ≡ spells b (spells b v xs) ys
unfolding spells
spells_append b v [] ys = refl
spells_append b v (x ∷ xs) ys = spells_append b (b * v + digit_of x) xs ys

-- ---- a turn of the loop that reads digits

-- a byte x, and the bytes after it
module _ (b v m x : ℕ) (xs : List ℕ) where
  -- a digit is taken, and the others go on from it
  more_digits : digit_of x < b → continued b v m (x ∷ xs) ≡ continued b (b * v + digit_of x) m xs
  unfolding continued are_digits spells
  more_digits h = rw (lt-ltb (digit_of x) b h)

  -- a byte that is no digit ends it
  no_digit : b ≤ digit_of x → continued b v m (x ∷ xs) ≡ None
  unfolding continued are_digits
  no_digit h = rw (le-ltb (digit_of x) b h)

  -- past m no digit leads back
  too_large : 0 < b → m < b * v + digit_of x → continued b v m (x ∷ xs) ≡ None
  unfolding continued spells
  too_large pos h =
      let over : m < spells b (b * v + digit_of x) xs = lt_of_lt_of_le h (spells_rise b (b * v + digit_of x) xs pos) in
      rw (lt-leb (spells b (b * v + digit_of x) xs) m over, and-false)

-- the digits from i on go on from those of v
module _ (l : List ℕ) (b m v i : ℕ) where
  -- at the end v is the number
  pub go_end : length l ≤ i → v ≤ m → continued b v m (drop i l) ≡ Some v
  unfolding continued are_digits spells
  go_end h k = rw (drop_of_length-le l h, le-leb v m k)

  -- before it, with x for the byte at i: the three ways
  module _ (x : ℕ) (h : i < length l) (e : x ≡ get_or l i 0) (base : b ≤ 16) where
    pub go_more : (w d : ℕ) → digit_value x < b → d ≡ digit_value x → w ≡ v * b + d
        → continued b v m (drop i l) ≡ continued b w m (drop (i + 1) l)
    go_more w d k f g =
        let s : d ≡ digit_of x = f ∙ stands_for x b base k in
        let n : w ≡ b * v + digit_of (get_or l i 0) = rw (← e, ← s) (omega arith) in
        rw (n, add-one, drop-cons l i 0 h) (more_digits b v m (get_or l i 0) (drop (suc i) l) (rw (← e, ← s, f) k))

    pub go_none : (digit_value x < b → ⊥) → continued b v m (drop i l) ≡ None
    go_none k = rw (drop-cons l i 0 h) (no_digit b v m (get_or l i 0) (drop (suc i) l) (rw (← e) (stands_for_none x b base (omega arith))))

    pub go_over : (d : ℕ) → 0 < b → digit_value x < b → d ≡ digit_value x → m < v * b + d → continued b v m (drop i l) ≡ None
    go_over d pos k f g =
        let s : d ≡ digit_of x = f ∙ stands_for x b base k in
        rw (drop-cons l i 0 h) (too_large b v m (get_or l i 0) (drop (suc i) l) pos (rw (← e, ← s) (omega arith)))

-- ---- what was read

is_empty_lem : (l : List ℕ) → length l ≡ 0 → is_empty l ≡ true
is_empty_lem [] h = refl
is_empty_lem (x ∷ xs) h = absurd (omega (arith, h))

not_empty : (l : List ℕ) → (length l ≡ 0 → ⊥) → is_empty l ≡ false
not_empty [] h = absurd (h refl)
not_empty (x ∷ xs) h = refl

-- where none was, it failed
was_unread : (t : Bool) (x : ℕ) → cond t (Some x) None ≡ None → t ≡ false
was_unread true x e = let z : ◌≡◌ {A = ℕ} 0 1 = cc in absurd (omega arith)
was_unread false x e = refl

module _ (b m : ℕ) (l : List ℕ) where
  -- no text is no number
  pub number_empty : length l ≡ 0 → number b m l ≡ None
  unfolding number
  number_empty h = rw (is_empty_lem l h)

  -- other text is digits that go on from 0
  pub number_digits : (length l ≡ 0 → ⊥) → number b m l ≡ continued b 0 m l
  unfolding number
  number_digits h = rw (not_empty l h)

  -- what was read is digits that spell the number, and it is at most m
  pub continued_is : (w v : ℕ) → continued b w m l ≡ Some v → (are_digits b l ≡ true) × (spells b w l ≡ v) × (v ≤ m)
  unfolding continued
  continued_is w v e =
      let small = leb (spells b w l) m in
      let t = cond_some (are_digits b l && small) (spells b w l) v e in
      let p = passes (are_digits b l && small) t.0 in
      (is_true (are_digits b l) (and_l (are_digits b l) small p), t.1, rw t.1 at (leb→le (spells b w l) m (and_r (are_digits b l) small p)))

  -- what was not has a byte that is no digit, or spells a number above m
  continued_unread : (w : ℕ) → continued b w m l ≡ None → (are_digits b l ≡ false) ⊎ (m < spells b w l)
  unfolding continued
  continued_unread w e =
      ⊎_elim (λ d. inl d) (λ d. inr (leb-false (spells b w l) m d))
      (and_cases (are_digits b l) (leb (spells b w l) m) (was_unread (are_digits b l && leb (spells b w l) m) (spells b w l) e))

-- a number that was read had digits, which go on from 0
number_is : (b m v : ℕ) (l : List ℕ) → number b m l ≡ Some v → (is_empty l ≡ false) × (continued b 0 m l ≡ Some v)
unfolding number
number_is b m v [] e = let z : ◌≡◌ {A = ℕ} 0 1 = cc in absurd (omega arith)
number_is b m v (x ∷ xs) e = (refl, e)

-- text that was not read is empty, or does not go on from 0
number_unread : (b m : ℕ) (l : List ℕ) → number b m l ≡ None → (is_empty l ≡ true) ⊎ (continued b 0 m l ≡ None)
unfolding number
number_unread b m [] e = inl refl
number_unread b m (x ∷ xs) e = inr e

-- a number that was read is at most the most that was allowed
pub number_within : (b m v : ℕ) (l : List ℕ) → number b m l ≡ Some v → v ≤ m
number_within b m v l e = (continued_is b m l 0 v (number_is b m v l e).1).2

-- ---- text parted by a byte

-- where the first s was looked for, and found or not
module _ (s : ℕ) (l : List ℕ) (r : Option ℕ) (e : r ≡ cond (has s l) (Some (index_of s l)) None) where
  pub found_none : r ≡ None → has s l ≡ false
  found_none h = was_unread (has s l) (index_of s l) (sym e ∙ h)

  pub found_at : (i : ℕ) → r ≡ Some i → (has s l ≡ true) × (index_of s l ≡ i)
  found_at i h = cond_some (has s l) (index_of s l) i (sym e ∙ h)

-- all of it stands before a byte that is not there, and nothing after it
pub all_before : (s : ℕ) (l : List ℕ) → has s l ≡ false → up_to s l ≡ l
unfolding has up_to
all_before s l h = take_all (index_of s l) l (ltb-false (index_of s l) (length l) h)

no_past : (s : ℕ) (l : List ℕ) → has s l ≡ false → past s l ≡ []
unfolding has past
no_past s l h = drop_of_length-le l {i = suc (index_of s l)} (omega (arith, ltb-false (index_of s l) (length l) h))

-- ---- decimals

-- the largest number that a decimal's digits may spell
abbrev pub most_whole : ℕ
most_whole = 10 ^ 15 - 1

not_whole : (l : List ℕ) → are_digits 10 l ≡ false → is_whole l ≡ false
not_whole l d = rw d (and-false (not (is_empty l)))

-- the digits l after the point, w before it: the four ways
module _ (w : ℕ) (l : List ℕ) where
  pub placed_empty : length l ≡ 0 → placed w l ≡ None
  unfolding placed
  placed_empty h = rw (is_empty_lem l h)

  pub placed_long : 15 < length l → placed w l ≡ None
  unfolding placed
  placed_long h = rw (lt-leb (length l) 15 h, and-false)

  pub placed_unread : continued 10 w most_whole l ≡ None → placed w l ≡ None
  unfolding placed
  placed_unread e =
      ⊎_elim (λ d. rw (not_whole l d)) (λ d. rw (le-ltb (spells 10 w l) (10 ^ 15) (omega (arith, d)), and-false, and-false))
      (continued_unread 10 most_whole l w e)

  pub placed_is : (v : ℕ) → (length l ≡ 0 → ⊥) → length l ≤ 15 → continued 10 w most_whole l ≡ Some v
      → placed w l ≡ Some (nearest_bits v (10 ^ length l))
  unfolding placed
  placed_is v h k e =
      let r = continued_is 10 most_whole l w v e in
      rw (not_empty l h, r.0, le-leb (length l) 15 k, r.1, lt-ltb v (10 ^ 15) (omega arith))

module _ (l : List ℕ) where
  -- the digits after the point make the whole number no smaller
  whole_rises : spells 10 0 (up_to point l) ≤ whole_of l
  unfolding whole_of
  whole_rises = rw spells_append (spells_rise 10 (spells 10 0 (up_to point l)) (past point l) (omega arith))

  -- no number before the point, no decimal
  pub decimal_unread : number 10 most_whole (up_to point l) ≡ None → decimal_bits l ≡ None
  unfolding decimal_bits is_decimal is_short
  decimal_unread e =
      ⊎_elim (λ z. rw z)
      (λ f.
      ⊎_elim (λ d. rw (not_whole (up_to point l) d))
      (λ d. rw (le-ltb (whole_of l) (10 ^ 15) (omega (arith, d, whole_rises)), and-false, and-false))
      (continued_unread 10 most_whole (up_to point l) 0 f))
      (number_unread 10 most_whole (up_to point l) e)

  -- the number before the point is w
  module _ (w : ℕ) (e : number 10 most_whole (up_to point l) ≡ Some w) where
    some : is_empty (up_to point l) ≡ false
    some = (number_is 10 most_whole w (up_to point l) e).0

    front : (are_digits 10 (up_to point l) ≡ true) × (spells 10 0 (up_to point l) ≡ w) × (w ≤ most_whole)
    front = continued_is 10 most_whole (up_to point l) 0 w (number_is 10 most_whole w (up_to point l) e).1

    -- the digits after the point go on from it
    whole_from : whole_of l ≡ spells 10 w (past point l)
    unfolding whole_of
    whole_from = rw (spells_append, front.1)

    -- with no point it is the decimal
    pub decimal_whole : has point l ≡ false → decimal_bits l ≡ Some (nearest_bits w 1)
    unfolding decimal_bits is_decimal is_short places_of spells
    decimal_whole h = rw (some, front.0, h, whole_from, no_past point l h, lt-ltb w (10 ^ 15) (omega (arith, front.2)))

    -- with one the digits after it decide
    pub decimal_placed : has point l ≡ true → decimal_bits l ≡ placed w (past point l)
    unfolding decimal_bits is_decimal is_short places_of placed
    decimal_placed h = rw (some, front.0, h, whole_from)

-- ---- the bits of a float: in hexadecimal, or by a decimal

-- the first two of 18 bytes or more
first_two : (l : List ℕ) (a b : ℕ) → 2 ≤ length l → pointwise eqb (take 2 l) (a ∷ b ∷ []) ≡ (eqb (get_or l 0 0) a && eqb (get_or l 1 0) b)
first_two [] a b h = absurd (omega arith)
first_two (x ∷ []) a b h = absurd (omega arith)
first_two (x ∷ y ∷ xs) a b h = ap (λ (t : Bool). eqb x a && t) (and-true (eqb y b))

module _ (l : List ℕ) where
  -- `0x`, and 16 bytes after it
  pub float_hexadecimal : pointwise eqb (take 2 l) (48 ∷ 120 ∷ []) ≡ true → length l ≡ 18 → float_bits l ≡ number 16 (2 ^ 64 - 1) (drop 2 l)
  unfolding float_bits is_hexadecimal
  float_hexadecimal h n = rw (eq-eqb (length l) 18 n, sym (first_two l 48 120 (omega arith)) ∙ h)

  -- another number of bytes
  pub float_long : (length l ≡ 18 → ⊥) → float_bits l ≡ decimal_bits l
  unfolding float_bits is_hexadecimal
  float_long n = rw (ne_eqb (length l) 18 n)

  -- another beginning
  pub float_other : pointwise eqb (take 2 l) (48 ∷ 120 ∷ []) ≡ false → float_bits l ≡ decimal_bits l
  unfolding float_bits is_hexadecimal
  float_other h =
      ⊎_elim (λ n. rw (n.0, sym (first_two l 48 120 (omega arith)) ∙ h)) (λ n. float_long n.1) (eqb_tells (length l) 18)
