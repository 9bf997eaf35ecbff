-- What a line's end does: with either end the text is read, and without a newline nothing is. Assumes nothing.
use Rattle.std.specs.Prelude.{None}
use mathlib.Core.Path.{◌≡◌, sym, ap, ◌∙◌}
use mathlib.Core.Bool.{and-false}
use mathlib.Core.List.{List, [], ◌∷◌, ◌++◌}
use Prim.Native.Nat.{ℕ, ◌+◌, ◌<◌}
use native.Mathlib.Omega.{arith}
use lib.Dec.{T}
use lib.ListN.{length, length-append}
use borrow.Author.Tests.{eq-eqb, ne_eqb, le-leb, lt-leb}
use Rattle.numerals.specs.Split.{up_to}
use Rattle.parted.proofs.Lacking.{lacks, up_to_first, up_to_none, lacks_append}
use Rattle.request_line.specs.Ends.{newline, carriage_return, before_newline, text_of, is_line}
use Rattle.request_line.specs.Forms.{read_text, read_line}

-- a line without its newline is no line
pub cut_off : (l : List ℕ) → T (lacks newline l) → read_line l ≡ None
unfolding read_line is_line
cut_off l t =
    let all : length (before_newline l) ≡ length l = ap length (up_to_none newline l t) in
    rw (ne_eqb (length (before_newline l) + 1) (length l) (λ e. omega (arith, all)))

-- a text without newline and carriage return
module _ (t : List ℕ) (n : T (lacks newline t)) (r : T (lacks carriage_return t)) where
  -- and a newline
  pub read_newline : read_line (t ++ (newline ∷ [])) ≡ read_text t
  unfolding read_line is_line text_of
  read_newline =
      rw (
        up_to_first newline t [] n,
        up_to_none carriage_return t r,
        eq-eqb (length t + 1) (length (t ++ (newline ∷ []))) (sym (length-append t (newline ∷ []))),
        le-leb (length t) (length t + 1) (omega arith),
      )

  -- text after a carriage return, up to the newline
  module _ (u : List ℕ) (m : T (lacks newline u)) where
    abbrev before : List ℕ
    before = t ++ carriage_return ∷ u

    before_is : before_newline (before ++ (newline ∷ [])) ≡ before
    before_is = up_to_first newline before [] (lacks_append newline t (carriage_return ∷ u) n m)

    text_is : text_of (before ++ (newline ∷ [])) ≡ t
    unfolding text_of
    text_is = ap (up_to carriage_return) before_is ∙ up_to_first carriage_return t u r

    long : length before ≡ length t + 1 + length u
    long = omega (arith, length-append t (carriage_return ∷ u))

    -- is unread
    pub return_within : 0 < length u → read_line (before ++ (newline ∷ [])) ≡ None
    unfolding read_line is_line
    return_within h = rw (before_is, text_is, lt-leb (length before) (length t + 1) (omega (arith, long)), and-false)

    -- unless it is none: then the carriage return is part of the line's end
    pub read_return : length u ≡ 0 → read_line (before ++ (newline ∷ [])) ≡ read_text t
    unfolding read_line is_line
    read_return h =
        rw (
          before_is,
          text_is,
          eq-eqb (length before + 1) (length (before ++ (newline ∷ []))) (sym (length-append before (newline ∷ []))),
          le-leb (length before) (length t + 1) (omega (arith, long)),
        )
