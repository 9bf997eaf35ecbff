-- Laws of the first place of a byte in a part of a text: what stands before it and after it, and how it is looked for byte by byte. Assumes nothing.
use mathlib.Core.Path.{◌≡◌}
use mathlib.Core.List.{List}
use Prim.Native.Nat.{ℕ, suc, ◌+◌, ◌-◌, ◌≤◌, ◌<◌}
use native.Mathlib.Nat.{add-suc}
use native.Mathlib.Numerals.{add-one}
use native.Mathlib.Omega.{arith}
use lib.ListN.{length, get_or, take, drop, length-drop}
use lib.Seq.{take_all, drop-drop, drop-cons}
use borrow.Author.Tests.{eq-eqb, ne_eqb}
use Rattle.std.specs.List.{slice_range}
use Rattle.numerals.specs.Split.{index_of, up_to, past}

-- the slice up to the end is what is left from its start on
pub slice_rest : (from : ℕ) (l : List ℕ) → slice_range l from (length l) ≡ drop from l
slice_rest from l = take_all (length l - from) (drop from l) (omega (arith, length-drop from l))

-- the first s from a place on: what stands before it, and what after it
module _ (s from : ℕ) (l : List ℕ) where
  pub find_ends : take (index_of s (slice_range l from (length l))) (drop from l) ≡ up_to s (drop from l)
  unfolding up_to
  find_ends = rw slice_rest

  pub find_past : drop (suc (from + index_of s (slice_range l from (length l)))) l ≡ past s (drop from l)
  unfolding past
  find_past = rw (slice_rest, drop-drop, add-suc)

-- a byte before the first s is passed
pub find_turn : (s i end : ℕ) (l : List ℕ) → i < end → end ≤ length l → (get_or l i 0 ≡ s → ⊥)
    → index_of s (slice_range l i end) ≡ suc (index_of s (slice_range l (i + 1) end))
unfolding index_of
find_turn s i end l h k e =
    let n : end - i ≡ suc (end - (i + 1)) = omega arith in
    rw (n, add-one, drop-cons l i 0 (omega arith), ne_eqb (get_or l i 0) s e) (omega arith)

-- the first s is found
pub find_here : (s i end : ℕ) (l : List ℕ) → i < end → end ≤ length l → get_or l i 0 ≡ s → index_of s (slice_range l i end) ≡ 0
unfolding index_of
find_here s i end l h k e =
    let n : end - i ≡ suc (end - (i + 1)) = omega arith in
    rw (n, drop-cons l i 0 (omega arith), eq-eqb (get_or l i 0) s e)

-- at the end there is none
pub find_none : (s i end : ℕ) (l : List ℕ) → end ≤ i → index_of s (slice_range l i end) ≡ 0
unfolding index_of
find_none s i end l h = let n : end - i ≡ 0 = omega arith in rw n
