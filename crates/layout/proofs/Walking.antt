-- Which way `head` goes by what is read, and what a turn of the walk does. Assumes nothing.
use mathlib.Core.Path.{◌≡◌, refl, sym, ap, ap₂, ◌∙◌}
use mathlib.Core.Bool.{Bool, true, false, cond, and-false}
use mathlib.Core.List.{List, [], ◌∷◌}
use mathlib.Core.Option.{Option, none, some, map}
use Prim.Native.Nat.{ℕ, suc, ◌+◌, ◌-◌, ◌^◌, ◌<◌, ◌≤◌}
use native.Mathlib.Nat.{zero-add}
use native.Mathlib.Numerals.{add-one}
use native.Mathlib.Omega.{arith}
use lib.ListN.{length, get_or, drop, length-drop}
use lib.Seq.{drop-drop}
use borrow.Author.Tests.{lt-ltb, le-ltb, le-leb, lt-leb, eq-eqb, ne_eqb}
use Rattle.bytes_le.specs.LittleEndian.{spelled}
use Rattle.bytes_le.proofs.Numbers.{Bytes, bytes_drop, spelled_lt}
use Rattle.std.proofs.Common.{Fits, w8}
use Rattle.layout.specs.declared.Head.{Head}
use Rattle.layout.specs.declared.Head.TheVariants.{End, Damage, Next}
use Rattle.std.specs.Prelude.{None, Some}
use Rattle.std.specs.Prelude.{Option as RustOption}
use Rattle.kinds.specs.declared.Request.{Request}
use Rattle.kinds.specs.Kinds.{fixed_length, kind_of, length_in, length_of}
use Rattle.kinds.proofs.Table.{shape_length}
use Rattle.entry.specs.declared.Entry.{Entry}
use Rattle.layout.specs.declared.Standing.{Standing}
use Rattle.entry.specs.Entry.{length_at, kind_at, serial_at, place_at, used_at, request_at, entry_of}
use Rattle.layout.specs.Book.{length_all, used_all, head, is_closed, decode_from, decode}
use Rattle.layout.specs.Sound.{offset}
use Rattle.layout.specs.Standing.{stands, standing}
use Rattle.layout.specs.Inner.{telling, walked}
use Rattle.entry.proofs.Entries.{entry_there}
use Rattle.layout.proofs.Decoding.{head_next, fitting_known, fitting_request, fitting_size}

-- ---- the head at `at`, by what the code reads: `left` bytes are left, and n is the length there

module _ (b : List ℕ) (at s p left n : ℕ) (el : left ≡ length b - at) (en : n ≡ length_at b at) where
  is_left : left ≡ length (drop at b)
  is_left = el ∙ sym (length-drop at b)

  pub head_short : left < 2 → End ≡ head s p (drop at b)
  unfolding head
  head_short h = rw (← is_left, lt-ltb left 2 h)

  pub head_zero : 2 ≤ left → n ≡ 0 → End ≡ head s p (drop at b)
  unfolding head
  head_zero h z = rw (← is_left, le-ltb left 2 h, ← en, eq-eqb n 0 z)

  module _ (h : 2 ≤ left) (z : n ≡ 0 → ⊥) where
    pub head_over : left < n → Damage ≡ head s p (drop at b)
    unfolding head
    head_over o = rw (← is_left, le-ltb left 2 h, ← en, ne_eqb n 0 z, lt-leb n left o, and-false)

    module _ (o : n ≤ left) (kind : ℕ) (ek : kind ≡ kind_at b at) where
      is_kind : kind_at (drop at b) 0 ≡ kind
      is_kind = ap (spelled 2) (drop-drop 2 at b) ∙ sym ek

      -- the length is not its kind's
      pub head_other : (m : ℕ) → m ≡ length_in (kind_of kind) → (n ≡ m → ⊥) → Damage ≡ head s p (drop at b)
      unfolding head
      head_other m e f = rw (← is_left, le-ltb left 2 h, ← en, ne_eqb n 0 z, is_kind, ← e, ne_eqb n m f)

      -- no entry is shorter than its fixed fields
      pub head_tiny : n < fixed_length → Damage ≡ head s p (drop at b)
      head_tiny t = head_other (length_in (kind_of kind)) refl (λ e. omega (arith, shape_length kind (omega (arith, z))))

      module _ (m : ℕ) (e : m ≡ length_in (kind_of kind)) (f : n ≡ m) (serial : ℕ) (es : serial ≡ serial_at b at) where
        is_serial : serial_at (drop at b) 0 ≡ serial
        is_serial = ap (spelled 4) (drop-drop 4 at b) ∙ sym es

        pub head_serial : (serial ≡ s → ⊥) → Damage ≡ head s p (drop at b)
        unfolding head
        head_serial w =
            rw (← is_left, le-ltb left 2 h, ← en, ne_eqb n 0 z, is_kind, ← e, eq-eqb n m f, le-leb n left o, is_serial, ne_eqb serial s w)

        module _ (w : serial ≡ s) (place : ℕ) (ep : place ≡ place_at b at) where
          is_place : place_at (drop at b) 0 ≡ place
          is_place = ap (spelled 4) (drop-drop 8 at b) ∙ sym ep

          pub head_place : (place ≡ p → ⊥) → Damage ≡ head s p (drop at b)
          unfolding head
          head_place v =
              rw (← is_left, le-ltb left 2 h, ← en, ne_eqb n 0 z, is_kind, ← e, eq-eqb n m f, le-leb n left o, is_serial, eq-eqb serial s w, is_place, ne_eqb place p v)

          pub head_found : place ≡ p → Next ≡ head s p (drop at b)
          unfolding head
          head_found v =
              rw (← is_left, le-ltb left 2 h, ← en, ne_eqb n 0 z, is_kind, ← e, eq-eqb n m f, le-leb n left o, is_serial, eq-eqb serial s w, is_place, eq-eqb place p v)

-- which way `head` goes, for `grind`
pub ruleset heads = (head_short, head_zero, head_over, head_tiny, head_other, head_serial, head_place, head_found)

-- ---- the walk, from an entry on

-- how a book stands with the entries es after n others that end at i and at the place p
abbrev onward : ℕ → ℕ → ℕ → Option (List Entry) → RustOption Standing
onward n i p none = None
onward n i p (some es) = Some (stands (n + length es) (i + length_all es) (p + used_all es))

-- what is left to tell: after n entries that end at `at` and at the place p
abbrev pub rest : ℕ → List ℕ → ℕ → ℕ → ℕ → RustOption Standing
rest t b at n p = onward n at p (decode_from (suc (length b - n)) t (n + 1) p (drop at b))

pub walk_start : (t : ℕ) (b : List ℕ) → rest t b 0 0 0 ≡ walked t b
unfolding walked decode
walk_start t b = let e : length b - 0 ≡ length b = omega arith in rw e (go (decode t b))
  where
    go : (o : Option (List Entry)) → onward 0 0 0 o ≡ telling o
    go none = refl
    go (some es) = λ i. Some (stands (zero-add (length es) i) (zero-add (length_all es) i) (zero-add (used_all es) i))

onward_more : (n at p : ℕ) (e : Entry) (o : Option (List Entry)) → onward n at p (map (λ (es : List Entry). e ∷ es) o) ≡ onward (n + 1) (at + length_of e.request) (p + e.used) o
unfolding length_all used_all
onward_more n at p e none = refl
onward_more n at p e (some es) =
    let a : n + suc (length es) ≡ n + 1 + length es = omega arith in
    let b : at + (length_of e.request + length_all es) ≡ at + length_of e.request + length_all es = omega arith in
    let c : p + (e.used + used_all es) ≡ p + e.used + used_all es = omega arith in
    λ i. Some (stands (a i) (b i) (c i))

onward_end : (n at p : ℕ) (d : Bool) → onward n at p (cond d (some []) none) ≡ cond d (Some (stands n at p)) None
unfolding length_all used_all
onward_end n at p true =
    let a : n + 0 ≡ n = omega arith in
    let b : at + 0 ≡ at = omega arith in
    let c : p + 0 ≡ p = omega arith in
    λ i. Some (stands (a i) (b i) (c i))
onward_end n at p false = refl

module _ (t : ℕ) (b : List ℕ) (at n p : ℕ) where
  rest_end : End ≡ head (n + 1) p (drop at b) → rest t b at n p ≡ cond (is_closed t p (drop at b)) (Some (stands n at p)) None
  unfolding decode_from
  rest_end h = rw (← h) (onward_end n at p (is_closed t p (drop at b)))

  rest_damage : Damage ≡ head (n + 1) p (drop at b) → rest t b at n p ≡ None
  unfolding decode_from
  rest_damage h = rw (← h)

  -- so what was answered there is what the whole walk tells, where it is what is left to tell
  module _ (left : rest t b at n p ≡ walked t b) where
    pub walk_ended : (x : Head) → x ≡ End → x ≡ head (n + 1) p (drop at b) → (r : RustOption Standing) → r ≡ cond (is_closed t p (drop at b)) (Some (stands n at p)) None → r ≡ walked t b
    walk_ended x is h r e = e ∙ sym (rest_end (sym is ∙ h)) ∙ left

    pub walk_damaged : (x : Head) → x ≡ Damage → x ≡ head (n + 1) p (drop at b) → None ≡ walked t b
    walk_damaged x is h = sym (rest_damage (sym is ∙ h)) ∙ left

  -- the walk goes on after an entry
  module _ (h : Next ≡ head (n + 1) p (drop at b)) where
    -- it lies within the book
    pub next_room : (fixed_length ≤ length_at b at) × (length_at b at ≤ length b - at)
    next_room =
        let f = head_next (n + 1) p (drop at b) (sym h) in
        let k = shape_length (kind_at (drop at b) 0) (fitting_known (n + 1) p (drop at b) f) in
        (omega (arith, f.sized, k), omega (arith, f.inside, length-drop at b))

    -- and the place that was tested fits 32 bits
    pub next_place : Bytes b → p < 2 ^ 32
    next_place by =
        let f = head_next (n + 1) p (drop at b) (sym h) in
        let small : place_at (drop at b) 0 < 2 ^ 32 = spelled_lt 4 (drop 8 (drop at b)) (bytes_drop (drop at b) 8 (bytes_drop b at by)) in
        omega (arith, f.placed)

    module _ (by : Bytes b) (x u : ℕ) (ex : x ≡ length_at b at) (eu : u ≡ used_at b at) (l : n < length b) where
      abbrev asked : (q : Request) × (request_at fixed_length (drop at b) 0 ≡ some q)
      asked = fitting_request (n + 1) p (drop at b) (head_next (n + 1) p (drop at b) (sym h))

      used_is : used_at (drop at b) 0 ≡ u
      used_is = ap (spelled 4) (drop-drop 12 at b) ∙ sym eu

      length_is : length_of asked.0 ≡ x
      length_is =
          fitting_size (n + 1) p (drop at b) (bytes_drop b at by) (head_next (n + 1) p (drop at b) (sym h)) asked.0 asked.1 ∙ sym ex

      one_turn : onward n at p (decode_from (suc (length b - n)) t (n + 1) p (drop at b))
          ≡ onward (n + 1) (at + x) (p + u) (decode_from (length b - n) t (n + 1 + 1) (p + u) (drop x (drop at b)))
      unfolding decode_from
      one_turn =
          rw (← h, ← ex, entry_there (drop at b) 0 asked.0 asked.1, onward_more n at p (entry_of asked.0 (drop at b) 0), used_is, length_is)

      pub rest_next : rest t b at n p ≡ rest t b (at + x) (n + 1) (p + u)
      rest_next =
          let fuel : length b - n ≡ suc (length b - (n + 1)) = omega arith in
          one_turn
          ∙ ap₂ (λ (k : ℕ) (d : List ℕ). onward (n + 1) (at + x) (p + u) (decode_from k t (n + 1 + 1) (p + u) d)) fuel (drop-drop x at b)

-- where an entry was found: it lies within the book, and its place and its used fit 32 bits
pub record Found (book : List ℕ) (at place : ℕ) : Type 0 where
  pub least : fixed_length ≤ length_at book at
  pub inside : length_at book at ≤ length book - at
  pub low : place < 2 ^ 32
  pub few : used_at book at < 2 ^ 32

pub found : (book : List ℕ) (at entries place : ℕ) → ((i : ℕ) → Fits w8 (get_or book i 0)) → Next ≡ head (entries + 1) place (drop at book) → Found book at place
found book at entries place fits h =
    let by : Bytes book = λ i. (fits i).fits in
    let r = next_room 0 book at entries place h in
    record {
      least = r.0;
      inside = r.1;
      low = next_place 0 book at entries place h by;
      few = spelled_lt 4 (drop (at + 12) book) (bytes_drop book (at + 12) by);
    }

-- the walk's turns and its answers, for `grind`
pub ruleset turns = (walk_start, walk_ended, walk_damaged, rest_next, found)

-- ---- a turn of the search for an offset

pub offset_next : (b : List ℕ) (at i x : ℕ) → at ≡ offset b i → x ≡ length_at b at → at + x ≡ offset b (i + 1)
unfolding offset
offset_next b at i x ea ex = rw (add-one i, ← ea, ex)

-- ---- what a walk's answer says

-- the entries of a book of which a walk told how it stands
pub record Told (t : ℕ) (b : List ℕ) (st : Standing) : Type 0 where
  pub entries : List Entry
  pub decoded : decode t b ≡ some entries
  pub stands : st ≡ standing entries

told_nothing : (o : Option (List Entry)) → None ≡ telling o → o ≡ none
told_nothing none q = refl
told_nothing (some es) q = let z : ◌≡◌ {A = ℕ} 0 1 = cc in absurd (omega arith)

told_sound : (t : ℕ) (b : List ℕ) (st : Standing) (o : Option (List Entry)) → decode t b ≡ o → Some st ≡ telling o → Told t b st
told_sound t b st none e q = let z : ◌≡◌ {A = ℕ} 0 1 = cc in absurd (omega arith)
told_sound t b st (some es) e q = record { entries = es; decoded = e; stands = cc }

pub walked_damaged : (t : ℕ) (b : List ℕ) → None ≡ walked t b → decode t b ≡ none
unfolding walked
walked_damaged t b q = told_nothing (decode t b) q

pub walked_sound : (t : ℕ) (b : List ℕ) (st : Standing) → Some st ≡ walked t b → Told t b st
unfolding walked
walked_sound t b st q = told_sound t b st (decode t b) refl q
