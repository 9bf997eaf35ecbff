-- Texts that are told byte by byte. Assumes nothing.
use mathlib.Core.Path.{◌≡◌, ap}
use mathlib.Core.Bool.{true, false}
use mathlib.Core.List.{List}
use Prim.Native.Nat.{ℕ}
use lib.Dec.{eqb}
use lib.ListN.{length, get_or}
use lib.Pointwise.{pointwise}
use Rattle.std.proofs.lemmas.Bool.{false_from_ne_true}
use Rattle.std.proofs.lemmas.Slice.Eq.{text_from_reads, HasBytesAt, bytes_eq-Decides}

-- a text of this length with these bytes is this text
pub same_read : (s p : List ℕ) → length s ≡ length p → HasBytesAt s 0 p → pointwise eqb s p ≡ true
same_read s p n h = (bytes_eq-Decides s p).1 (text_from_reads s p n h)

-- one with another first byte is not
pub other_first : (s p : List ℕ) → (get_or s 0 0 ≡ get_or p 0 0 → ⊥) → pointwise eqb s p ≡ false
other_first s p n = false_from_ne_true (pointwise eqb s p) (λ e. n (ap (λ (l : List ℕ). get_or l 0 0) ((bytes_eq-Decides s p).0 e)))
