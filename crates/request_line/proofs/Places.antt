-- Laws of a line's end by places: where its first newline stands and, before it, its first carriage return. Assumes nothing.
use mathlib.Core.Path.{◌≡◌, sym, ap, ◌∙◌}
use mathlib.Core.Bool.{and-false}
use mathlib.Core.List.{List}
use Prim.Native.Nat.{ℕ, ◌+◌, ◌-◌, ◌≤◌, ◌<◌}
use native.Mathlib.Nat.{zero-add, sub-zero}
use native.Mathlib.Omega.{arith}
use lib.ListN.{length, take}
use lib.Seq.{length-take-le, take-length, take-take}
use borrow.Author.Tests.{eq-eqb, ne_eqb, le-leb, lt-leb}
use Rattle.std.specs.Prelude.{None}
use Rattle.std.specs.List.{slice_range}
use Rattle.numerals.specs.Split.{index_of, up_to}
use Rattle.request_line.specs.Ends.{newline, carriage_return, before_newline, text_of, is_line}
use Rattle.request_line.specs.Forms.{read_text, read_line}

-- the first s of the first m bytes: what stands before it
found_up_to : (s m i : ℕ) (l : List ℕ) → i ≡ 0 + index_of s (slice_range l 0 m) → i ≤ m → take i l ≡ up_to s (take m l)
unfolding up_to
found_up_to s m i l e h =
    let f : i ≡ index_of s (take m l) = rw (zero-add, sub-zero) at e in
    sym (take-take i m l h) ∙ ap (λ (k : ℕ). take k (take m l)) f

module _ (l : List ℕ) (end : ℕ) (e : end ≡ 0 + index_of newline (slice_range l 0 (length l))) (h : end ≤ length l) where
  before_is : take end l ≡ before_newline l
  before_is = found_up_to newline (length l) end l e h ∙ ap (up_to newline) (take-length l)

  before_length : length (before_newline l) ≡ end
  before_length = ap length (sym before_is) ∙ length-take-le end l h

  -- a newline that is not the last byte, or none
  pub not_ended : (length l - end ≡ 1 → ⊥) → read_line l ≡ None
  unfolding read_line is_line
  not_ended n = rw (before_length, ne_eqb (end + 1) (length l) (λ q. n (omega arith)))

  -- the first carriage return before it, or the newline itself
  module _ (stop : ℕ) (f : stop ≡ 0 + index_of carriage_return (slice_range l 0 end)) (k : stop ≤ end) where
    text_is : take stop l ≡ text_of l
    unfolding text_of
    text_is = found_up_to carriage_return end stop l f k ∙ ap (up_to carriage_return) before_is

    text_length : length (text_of l) ≡ stop
    text_length = ap length (sym text_is) ∙ length-take-le stop l (omega arith)

    -- more between the two than one carriage return
    pub not_bare : 1 < end - stop → read_line l ≡ None
    unfolding read_line is_line
    not_bare n = rw (before_length, text_length, lt-leb end (stop + 1) (omega arith), and-false)

    -- else the text is read
    pub read_text_lem : length l - end ≡ 1 → end - stop ≤ 1 → read_line l ≡ read_text (take (stop - 0) l)
    unfolding read_line is_line
    read_text_lem n m =
        rw (sub-zero, text_is, before_length, text_length, eq-eqb (end + 1) (length l) (omega arith), le-leb end (stop + 1) (omega arith))
