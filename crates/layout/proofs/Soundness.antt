-- `decode` gives entries exactly of the books that are sound by the five clauses (RULES, 'The book'). Assumes nothing.
use mathlib.Core.Path.{◌≡◌, refl, sym, ap, ◌∙◌}
use mathlib.Core.Bool.{true, or-true}
use mathlib.Core.List.{List, [], ◌∷◌}
use mathlib.Core.Logic.{inl, inr, ◌↔◌}
use mathlib.Core.Option.{some, map}
use Prim.Native.Nat.{ℕ, zero, suc, ◌+◌, ◌*◌, ◌-◌, ◌<◌, ◌≤◌}
use native.Mathlib.Nat.{zero-lt-suc}
use native.Mathlib.Numerals.{add-one}
use native.Mathlib.Omega.{arith}
use lib.Dec.{ltb}
use lib.ListN.{length, get_or, drop, replicate, length-drop, get_or-replicate}
use lib.Seq.{get_or-drop, drop-drop, drop_at, take-length}
use borrow.Author.Tests.{lt-ltb, le-leb, eq-eqb}
use Rattle.bytes_le.specs.LittleEndian.{spelled}
use Rattle.bytes_le.specs.Zeros.{all_zero}
use Rattle.bytes_le.proofs.Numbers.{Bytes, spelled_zeros}
use Rattle.kinds.specs.Kinds.{fixed_length, kind_of, length_in}
use Rattle.kinds.proofs.Table.{shape_length}
use Rattle.entry.specs.declared.Entry.{Entry}
use Rattle.entry.specs.Entry.{blank, length_at, kind_at, used_at, entry_of}
use Rattle.layout.specs.Book.{entries_bytes, length_all, used_all, is_end, decode_from, decode}
use Rattle.layout.specs.Sound.{offset, used_before, EndsAt, Sound}
use Rattle.entry.proofs.Entries.{entry_there}
use Rattle.layout.proofs.Decoding.{Written, written, Fitting, head_end, head_fitting, fitting_request, length_least, length_entries}
use Rattle.layout.proofs.Positions.{lies_end, lies_length, lies_kind, lies_within, lies_serial, lies_place, lies_used_before}

-- ---- what decodes is sound

module _ (t : ℕ) (b : List ℕ) (es : List Entry) (by : Bytes b) (so : decode t b ≡ some es) (d : Entry) where
  wr : Written t 1 0 b es
  wr = written t b es by so

  tail : drop (length_all es) b ≡ replicate (length b - length_all es) 0
  tail = ap (drop (length_all es)) wr.bytes ∙ drop_at (entries_bytes es) (replicate (length b - length_all es) 0) (length_all es) (length_entries es)

  no_end : (i : ℕ) → i < length es → EndsAt b (offset b i) → ⊥
  no_end i h (inl z) = omega (arith, lies_within t b es by so d i h, length_least (get_or es i d))
  no_end i h (inr z) = omega (arith, lies_length t b es by so d i h, length_least (get_or es i d))

  zero_after : (i : ℕ) → length_all es ≤ i → i < length b → get_or b i 0 ≡ 0
  zero_after i h l =
      let e : length_all es + (i - length_all es) ≡ i = omega arith in
      ap (λ (k : ℕ). get_or b k 0) (sym e)
      ∙ sym (get_or-drop (length_all es) b (i - length_all es) 0)
      ∙ ap (λ (m : List ℕ). get_or m (i - length_all es) 0) tail
      ∙ get_or-replicate (length b - length_all es) (i - length_all es) 0 0 (omega arith)

  pub decodes_sound : Sound t b
  decodes_sound =
      record {
        number = length es;
        begins = no_end;
        ends = inr (ap (length_at b) (lies_end t b es by so d) ∙ ap (spelled 2) tail ∙ spelled_zeros 2 (length b - length_all es));
        fits_kind = λ i h. lies_length t b es by so d i h ∙ ap (λ (k : ℕ). length_in (kind_of k)) (sym (lies_kind t b es by so d i h));
        fits_buffer = λ i h. omega (arith, lies_within t b es by so d i h, lies_length t b es by so d i h);
        serials = λ i h. lies_serial t b es by so d i h;
        places = λ i h. lies_place t b es by so d i h ∙ sym (lies_used_before t b es by so d i (omega arith));
        words = omega (arith, wr.tape, lies_used_before t b es by so d (length es) (omega arith), ap used_all (take-length es));
        zeros = λ i h l. zero_after i (omega (arith, lies_end t b es by so d)) l;
      }

-- ---- what is sound decodes

all_zero_lem : (l : List ℕ) → ((i : ℕ) → i < length l → get_or l i 0 ≡ 0) → all_zero l ≡ true
unfolding all_zero
all_zero_lem [] h = refl
all_zero_lem (x ∷ xs) h = rw (eq-eqb x 0 (h 0 (zero-lt-suc (length xs)))) (all_zero_lem xs (λ i l. h (suc i) (omega arith)))

module _ (t : ℕ) (b : List ℕ) (so : Sound t b) where
  long : (i : ℕ) → i < so.number → fixed_length ≤ length_at b (offset b i)
  long i h =
      let f = so.fits_kind i h in
      let z : length_at b (offset b i) ≡ 0 → ⊥ = λ e. so.begins i h (inr e) in
      let k : 0 < length_in (kind_of (kind_at b (offset b i))) = omega (arith, f, z) in
      omega (arith, shape_length (kind_at b (offset b i)) k)

  -- so many entries reach so far, within the book
  far : (i : ℕ) → i ≤ so.number → (fixed_length * i ≤ offset b i) × (offset b i ≤ length b)
  unfolding offset
  far zero h = (omega arith, omega arith)
  far (suc i) h =
      let r = far i (omega arith) in
      (omega (arith, long i h), so.fits_buffer i h)

  -- the entry i at the front of what is left
  fitting : (i : ℕ) → i < so.number → Fitting (i + 1) (used_before b i) (drop (offset b i) b)
  fitting i h =
      let o : ℕ = offset b i in
      let left : length (drop o b) ≡ length b - o = length-drop o b in
      let n = long i h in
      let r = so.fits_buffer i h in
      record {
        begins = omega arith;
        nonzero = λ z. so.begins i h (inr z);
        sized = so.fits_kind i h ∙ ap (λ (l : List ℕ). length_in (kind_of (spelled 2 l))) (sym (drop-drop 2 o b));
        inside = omega arith;
        due = ap (spelled 4) (drop-drop 4 o b) ∙ so.serials i h ∙ sym (add-one i);
        placed = ap (spelled 4) (drop-drop 8 o b) ∙ so.places i h;
      }

  end_tested : (o : ℕ) → EndsAt b o → is_end (drop o b) ≡ true
  end_tested o (inl z) = rw (lt-ltb (length (drop o b)) 2 (omega (arith, length-drop o b)))
  end_tested o (inr z) = rw (eq-eqb (length_at b o) 0 z) (or-true (ltb (length (drop o b)) 2))

  zeros_left : all_zero (drop (offset b so.number) b) ≡ true
  zeros_left =
      let o : ℕ = offset b so.number in
      all_zero_lem (drop o b) (λ i h. get_or-drop o b i 0 ∙ so.zeros (o + i) (omega arith) (omega (arith, length-drop o b)))

  decoding_end : (f : ℕ) → decode_from (suc f) t (so.number + 1) (used_before b so.number) (drop (offset b so.number) b) ≡ some []
  unfolding decode_from
  decoding_end f =
      let o : ℕ = offset b so.number in
      rw (
        head_end (so.number + 1) (used_before b so.number) (drop o b) (end_tested o so.ends),
        le-leb (used_before b so.number) t so.words,
        zeros_left,
      )

  -- and the entry that stands there
  entry_here : (i : ℕ) → i < so.number → Entry
  entry_here i h = let o = offset b i in entry_of (fitting_request (i + 1) (used_before b i) (drop o b) (fitting i h)).0 (drop o b) 0

  decoding_next : (i f : ℕ) (h : i < so.number)
      → decode_from (suc f) t (i + 1) (used_before b i) (drop (offset b i) b)
      ≡ map (λ (es : List Entry). entry_here i h ∷ es) (decode_from f t (suc i + 1) (used_before b (suc i)) (drop (offset b (suc i)) b))
  unfolding decode_from offset used_before entry_here
  decoding_next i f h =
      let o : ℕ = offset b i in
      let ft = fitting i h in
      let r = fitting_request (i + 1) (used_before b i) (drop o b) ft in
      let used_is : used_at (drop o b) 0 ≡ used_at b o = ap (spelled 4) (drop-drop 12 o b) in
      let s-is : i + 1 + 1 ≡ suc i + 1 = omega arith in
      rw (head_fitting (i + 1) (used_before b i) (drop o b) ft, entry_there (drop o b) 0 r.0 r.1)
      (λ j. map (λ (es : List Entry). entry_of r.0 (drop o b) 0 ∷ es) (decode_from f t (s-is j) (used_before b i + used_is j) (drop-drop (length_at b o) o b j)))

  -- from the entry i on, with m to come
  decoding : (m i f : ℕ) → i + m ≡ so.number → m < f → (es : List Entry) × (decode_from f t (i + 1) (used_before b i) (drop (offset b i) b) ≡ some es)
  decoding m i zero e h = absurd (omega arith)
  decoding zero i (suc f) e h =
      let n : i ≡ so.number = omega arith in
      ([], rw n (decoding_end f))
  decoding (suc m) i (suc f) e h =
      let rest = decoding m (suc i) f (omega arith) (omega arith) in
      let l : i < so.number = omega arith in
      (entry_here i l ∷ rest.0, decoding_next i f l ∙ ap (map (λ (es : List Entry). entry_here i l ∷ es)) rest.1)

  pub sound_decodes : (es : List Entry) × (decode t b ≡ some es)
  unfolding decode offset used_before
  sound_decodes = decoding so.number 0 (suc (length b)) (omega arith) (omega (arith, far so.number (omega arith)))

-- both ways
pub sound_exactly : (t : ℕ) (b : List ℕ) → Bytes b → Sound t b ↔ ((es : List Entry) × (decode t b ≡ some es))
sound_exactly t b by = (sound_decodes t b, λ x. decodes_sound t b x.0 by x.1 blank)
