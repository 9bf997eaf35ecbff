-- Laws of a line's end: what is left of a line when a newline, and before it a carriage return, is taken off its end. Assumes nothing.
use mathlib.Core.Path.{◌≡◌, refl, sym, ap, ◌∙◌}
use mathlib.Core.Bool.{Bool, true, false, ◌||◌, and-false, true≢false}
use mathlib.Core.Logic.{◌⊎◌, inl, inr, ⊎_elim}
use mathlib.Core.List.{List, [], ◌∷◌, ◌++◌, append_assoc}
use Prim.Native.Nat.{ℕ, ◌+◌, ◌<◌}
use native.Mathlib.Numerals.{one-add}
use native.Mathlib.Omega.{arith}
use lib.Dec.{T, eqb}
use lib.ListN.{length, length-append}
use denote.Ref.{Bor}
use borrow.Author.Tests.{ne_eqb, lt-leb}
use Rattle.std.specs.Prelude.{Option, None, Some}
use Rattle.std.specs.List.{list_any}
use Rattle.std.specs.Option.{MatchOption, unwrap_or}
use Rattle.std.proofs.lemmas.Bool.{cases_Bool, eqb-true}
use Rattle.numerals.specs.Split.{index_of, up_to}
use Rattle.parted.proofs.Lacking.{lacks, up_to_first, lacks_append}
use Rattle.request_line.specs.Ends.{newline, carriage_return, before_newline, text_of, is_line}
use Rattle.request_line.specs.Forms.{read_text, read_line}
use Rattle.request_line.proofs.Whole.{read_newline, read_return}

-- ---- the first s of a text

module _ (s x : ℕ) (xs : List ℕ) where
  up_to_here : eqb x s ≡ true → up_to s (x ∷ xs) ≡ []
  unfolding up_to index_of
  up_to_here e = rw e

  up_to_later : eqb x s ≡ false → up_to s (x ∷ xs) ≡ x ∷ up_to s xs
  unfolding up_to index_of
  up_to_later e = rw (e, one-add)

-- where it is the last byte
last_found : (s : ℕ) (l : List ℕ) → length (up_to s l) + 1 ≡ length l → l ≡ up_to s l ++ (s ∷ [])
last_found s [] e = absurd (omega arith)
last_found s (x ∷ []) e =
    ⊎_elim (λ h. rw (up_to_here s x [] h) (ap (λ (y : ℕ). y ∷ []) (eqb-true x s h))) (λ h. let g = rw (up_to_later s x [] h) at e in absurd (omega arith))
    (cases_Bool (eqb x s))
last_found s (x ∷ y ∷ xs) e =
    ⊎_elim (λ h. let g = rw (up_to_here s x (y ∷ xs) h) at e in absurd (omega arith))
    (λ h.
    let g = rw (up_to_later s x (y ∷ xs) h) at e in
    rw (up_to_later s x (y ∷ xs) h) (ap (λ (r : List ℕ). x ∷ r) (last_found s (y ∷ xs) (omega arith))))
    (cases_Bool (eqb x s))

-- where it is there, whatever comes after the text
found_within : (s : ℕ) (l t : List ℕ) → list_any (λ y. eqb y s) l ≡ true → (up_to s (l ++ t) ≡ up_to s l) × (length (up_to s l) < length l)
found_within s [] t e = cc
found_within s (x ∷ xs) t e =
    ⊎_elim (λ h. (rw (up_to_here s x (xs ++ t) h, up_to_here s x xs h), rw (up_to_here s x xs h) (omega arith)))
    (λ h.
    let g : (up_to s (xs ++ t) ≡ up_to s xs) × (length (up_to s xs) < length xs) = found_within s xs t (rw h at e) in
    (rw (up_to_later s x (xs ++ t) h, up_to_later s x xs h) (ap (λ (r : List ℕ). x ∷ r) g.0), rw (up_to_later s x xs h) (omega arith)))
    (cases_Bool (eqb x s))

-- where it is not
found_nowhere : (s : ℕ) (l : List ℕ) → list_any (λ y. eqb y s) l ≡ false → T (lacks s l)
found_nowhere s [] e = tt
found_nowhere s (x ∷ xs) e =
    ⊎_elim (λ h. let g = rw h at e in cc) (λ h. rw h (found_nowhere s xs (rw h at e))) (cases_Bool (eqb x s))

-- a test for either of two bytes finds one of them, or neither; a and b are the two tests of a byte, x, y and z those of the bytes after it
one_of : (a b x y z : Bool) → (z ≡ true → (x ≡ true) ⊎ (y ≡ true)) → ((a || b) || z) ≡ true → ((a || x) ≡ true) ⊎ ((b || y) ≡ true)
one_of true b x y z f e = inl refl
one_of false true x y z f e = inr refl
one_of false false x y z f e = f e

none_of : (a b x y z : Bool) → (z ≡ false → (x ≡ false) × (y ≡ false)) → ((a || b) || z) ≡ false → ((a || x) ≡ false) × ((b || y) ≡ false)
none_of true b x y z f e = absurd (true≢false e)
none_of false true x y z f e = absurd (true≢false e)
none_of false false x y z f e = f e

either_found : (s r : ℕ) (l : List ℕ) → list_any (λ y. eqb y s || eqb y r) l ≡ true → (list_any (λ y. eqb y s) l ≡ true) ⊎ (list_any (λ y. eqb y r) l ≡ true)
either_found s r [] e = absurd (true≢false (sym e))
either_found s r (x ∷ xs) e =
    one_of (eqb x s) (eqb x r) (list_any (λ y. eqb y s) xs) (list_any (λ y. eqb y r) xs) (list_any (λ y. eqb y s || eqb y r) xs) (either_found s r xs) e

neither_found : (s r : ℕ) (l : List ℕ) → list_any (λ y. eqb y s || eqb y r) l ≡ false
    → (list_any (λ y. eqb y s) l ≡ false) × (list_any (λ y. eqb y r) l ≡ false)
neither_found s r [] e = (refl, refl)
neither_found s r (x ∷ xs) e =
    none_of (eqb x s) (eqb x r) (list_any (λ y. eqb y s) xs) (list_any (λ y. eqb y r) xs) (list_any (λ y. eqb y s || eqb y r) xs) (neither_found s r xs) e

-- ---- what is left of a line

-- a line whose last byte is no newline
pub unended : (l : List ℕ) → ((f : List ℕ) → l ≡ f ++ (newline ∷ []) → ⊥) → read_line l ≡ None
unfolding read_line is_line
unended l n = rw (ne_eqb (length (before_newline l) + 1) (length l) (λ e. n (before_newline l) (last_found newline l e)))

-- b is a line l without its newline, and without the carriage return before it
abbrev pub LeftOf : List ℕ → List ℕ → Type 0
LeftOf l b =
    ((l ≡ b ++ (newline ∷ [])) × ((f : List ℕ) → b ≡ f ++ (carriage_return ∷ []) → ⊥)) ⊎ (l ≡ b ++ (carriage_return ∷ []) ++ (newline ∷ []))

pub left_of : (l : List ℕ) (d : Bor (List ℕ)) (r : Option (Bor (List ℕ))) → l ≡ d.now ++ (newline ∷ [])
    → MatchOption r ((f : List ℕ) → d.now ≡ f ++ (carriage_return ∷ []) → ⊥) (λ x. d.now ≡ x.now ++ (carriage_return ∷ [])) → LeftOf l (unwrap_or r d).now
left_of l d None e m = inl (e, m)
left_of l d (Some x) e m = inr (e ∙ ap (λ (a : List ℕ). a ++ (newline ∷ [])) m)

module _ (l b : List ℕ) (o : LeftOf l b) where
  -- a newline in what is left is no line's
  before_end : (t : List ℕ) → l ≡ b ++ t → 0 < length t → list_any (λ y. eqb y newline) b ≡ true → read_line l ≡ None
  unfolding read_line is_line
  before_end t e p a =
      let f = found_within newline b t a in
      rw (e, f.0, ne_eqb (length (up_to newline b) + 1) (length (b ++ t)) (λ g. omega (arith, f.1, length-append b t)))

  pub newline_left : list_any (λ y. eqb y newline) b ≡ true → read_line l ≡ None
  newline_left a =
      ⊎_elim (λ p. before_end (newline ∷ []) p.0 (omega arith) a)
      (λ e. before_end ((carriage_return ∷ []) ++ (newline ∷ [])) (e ∙ append_assoc b (carriage_return ∷ []) (newline ∷ [])) (omega arith) a) o

  -- nor is a carriage return
  module _ (m : list_any (λ y. eqb y newline) b ≡ false) where
    lacks_newline : T (lacks newline b)
    lacks_newline = found_nowhere newline b m

    pub return_left : list_any (λ y. eqb y carriage_return) b ≡ true → read_line l ≡ None
    unfolding read_line is_line text_of
    return_left a =
        let f = found_within carriage_return b (carriage_return ∷ []) a in
        ⊎_elim
        (λ p.
        let not_last : length (up_to carriage_return b) + 1 ≡ length b → ⊥ = λ e. p.1 (up_to carriage_return b) (last_found carriage_return b e) in
        rw (
          p.0,
          up_to_first newline b [] lacks_newline,
          lt-leb (length b) (length (up_to carriage_return b) + 1) (omega (arith, f.1, not_last)),
          and-false,
        ))
        (λ e.
        rw (
          e,
          up_to_first newline (b ++ (carriage_return ∷ [])) [] (lacks_append newline b (carriage_return ∷ []) lacks_newline tt),
          f.0,
          lt-leb (length (b ++ (carriage_return ∷ []))) (length (up_to carriage_return b) + 1) (omega (arith, f.1, length-append b (carriage_return ∷ []))),
          and-false,
        ))
        o

    -- with neither it is the text
    pub text_left : list_any (λ y. eqb y carriage_return) b ≡ false → read_line l ≡ read_text b
    text_left a =
        let r = found_nowhere carriage_return b a in
        ⊎_elim (λ p. rw p.0 (read_newline b lacks_newline r)) (λ e. rw e (read_return b lacks_newline r [] tt refl)) o

  -- the two tests at once
  pub byte_left : list_any (λ y. eqb y newline || eqb y carriage_return) b ≡ true → read_line l ≡ None
  byte_left a =
      ⊎_elim (λ n. newline_left n)
      (λ r. ⊎_elim (λ n. newline_left n) (λ n. return_left n r) (cases_Bool (list_any (λ y. eqb y newline) b)))
      (either_found newline carriage_return b a)

  pub bare_left : list_any (λ y. eqb y newline || eqb y carriage_return) b ≡ false → read_line l ≡ read_text b
  bare_left a = let f = neither_found newline carriage_return b a in text_left f.0 f.1
