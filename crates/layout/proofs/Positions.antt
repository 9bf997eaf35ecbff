-- Where the entries of a sound book lie: by their offsets, and what stands there. Assumes nothing.
use mathlib.Core.Path.{◌≡◌, refl, sym, ap, ◌∙◌}
use mathlib.Core.List.{List, [], ◌∷◌, ◌++◌, append_assoc}
use mathlib.Core.Option.{some}
use Prim.Native.Nat.{ℕ, zero, suc, ◌+◌, ◌-◌, ◌<◌, ◌≤◌}
use native.Mathlib.Nat.{add-zero, zero-add}
use native.Mathlib.Omega.{arith}
use lib.ListN.{length, get_or, take, drop, replicate, take-append-drop}
use lib.Seq.{split_at, drop-drop, drop_at, take-suc, take-length, length-take-le}
use Rattle.bytes_le.specs.LittleEndian.{spelled}
use Rattle.bytes_le.proofs.Numbers.{Bytes}
use Rattle.kinds.specs.Kinds.{fixed_length, kind_of, length_in, kind_number, length_of}
use Rattle.entry.specs.declared.Entry.{Entry}
use Rattle.entry.specs.Entry.{entry_bytes, length_at, kind_at, serial_at, place_at, used_at, entry_of, entry_at}
use Rattle.layout.specs.Book.{entries_bytes, length_all, used_all, decode}
use Rattle.layout.specs.Sound.{offset, used_before}
use Rattle.entry.specs.Inner.{HasEntry}
use Rattle.layout.specs.Inner.{Reaches}
use Rattle.entry.proofs.Entries.{Fits, entry_read, length_read, entry_tells, entry_kind}
use Rattle.layout.proofs.Decoding.{Chain, Written, written, length_least, length_entries}

-- ---- entries one after another

pub bytes_append : (xs ys : List Entry) → entries_bytes (xs ++ ys) ≡ entries_bytes xs ++ entries_bytes ys
unfolding entries_bytes
bytes_append [] ys = refl
bytes_append (x ∷ xs) ys =
    ap (λ (l : List ℕ). entry_bytes x ++ l) (bytes_append xs ys) ∙ sym (append_assoc (entry_bytes x) (entries_bytes xs) (entries_bytes ys))

pub length_all_append : (xs ys : List Entry) → length_all (xs ++ ys) ≡ length_all xs + length_all ys
unfolding length_all
length_all_append [] ys = sym (zero-add (length_all ys))
length_all_append (x ∷ xs) ys = omega (arith, length_all_append xs ys)

pub used_all_append : (xs ys : List Entry) → used_all (xs ++ ys) ≡ used_all xs + used_all ys
unfolding used_all
used_all_append [] ys = sym (zero-add (used_all ys))
used_all_append (x ∷ xs) ys = omega (arith, used_all_append xs ys)

pub length_one : (e : Entry) → length_all (e ∷ []) ≡ length_of e.request
unfolding length_all
length_one e = add-zero _

pub used_one : (e : Entry) → used_all (e ∷ []) ≡ e.used
unfolding used_all
used_one e = add-zero _

pub chain_left : (xs ys : List Entry) (s p : ℕ) → Chain s p (xs ++ ys) → Chain s p xs
chain_left [] ys s p c = tt
chain_left (x ∷ xs) ys s p c = (c.0, chain_left xs ys (s + 1) (p + x.used) c.1)

-- an entry between others has its serial and its place by what comes before it
pub chain_mid : (xs ys : List Entry) (e : Entry) (s p : ℕ) → Chain s p (xs ++ e ∷ ys) → Fits e × ((e.serial ≡ s + length xs) × (e.place ≡ p + used_all xs))
unfolding used_all
chain_mid [] ys e s p c = (c.0.0, (omega arith, omega arith))
chain_mid (x ∷ xs) ys e s p c =
    let m = chain_mid xs ys e (s + 1) (p + x.used) c.1 in
    (m.0, (omega arith, omega arith))

-- the entry at i is the one at the front of what is left from i on
pub entry_at_lem : (b : List ℕ) (i : ℕ) → entry_at b i ≡ entry_at (drop i b) 0
unfolding entry_at
entry_at_lem b i = rw (drop-drop 2 i b, drop-drop 4 i b, drop-drop 8 i b, drop-drop 12 i b, drop-drop 16 i b, drop-drop fixed_length i b)

-- ---- the entries of a sound book

module _ (t : ℕ) (b : List ℕ) (es : List Entry) (by : Bytes b) (so : decode t b ≡ some es) (d : Entry) where
  all : Written t 1 0 b es
  all = written t b es by so

  module _ (i : ℕ) (h : i < length es) where
    abbrev e : Entry
    e = get_or es i d

    abbrev at : ℕ
    at = length_all (take i es)

    whole : es ≡ take i es ++ get_or es i d ∷ drop (suc i) es
    whole = split_at es i d h

    chained : Chain 1 0 (take i es ++ get_or es i d ∷ drop (suc i) es)
    chained = rw whole at all.chain

    mid : Fits (get_or es i d) × (((get_or es i d).serial ≡ 1 + length (take i es)) × ((get_or es i d).place ≡ 0 + used_all (take i es)))
    mid = chain_mid (take i es) (drop (suc i) es) (get_or es i d) 1 0 chained

    after : List ℕ
    after = entries_bytes (drop (suc i) es) ++ replicate (length b - length_all es) 0

    parts : b ≡ entries_bytes (take i es) ++ (entry_bytes e ++ after)
    unfolding after entries_bytes
    parts =
        let zs : List ℕ = replicate (length b - length_all es) 0 in
        all.bytes
        ∙ ap (λ (l : List Entry). entries_bytes l ++ zs) whole
        ∙ ap (λ (l : List ℕ). l ++ zs) (bytes_append (take i es) (e ∷ drop (suc i) es))
        ∙ append_assoc (entries_bytes (take i es)) (entry_bytes e ++ entries_bytes (drop (suc i) es)) zs
        ∙ ap (λ (l : List ℕ). entries_bytes (take i es) ++ l) (append_assoc (entry_bytes e) (entries_bytes (drop (suc i) es)) zs)

    front : drop at b ≡ entry_bytes e ++ after
    front = ap (drop at) parts ∙ drop_at (entries_bytes (take i es)) (entry_bytes e ++ after) at (length_entries (take i es))

    read_here : entry_at b at ≡ some e
    read_here = entry_at_lem b at ∙ ap (λ (l : List ℕ). entry_at l 0) front ∙ entry_read e after mid.0

    length_here : length_at b at ≡ length_of e.request
    length_here = ap (spelled 2) front ∙ length_read e after mid.0

    next_here : length_all (take (suc i) es) ≡ at + length_of e.request
    next_here = ap length_all (take-suc es i d h) ∙ length_all_append (take i es) (e ∷ []) ∙ ap (λ (k : ℕ). at + k) (length_one e)

    used_here : used_all (take (suc i) es) ≡ used_all (take i es) + e.used
    used_here = ap used_all (take-suc es i d h) ∙ used_all_append (take i es) (e ∷ []) ∙ ap (λ (k : ℕ). used_all (take i es) + k) (used_one e)

    room_here : at + length_of e.request ≤ length b
    unfolding length_all
    room_here = omega (arith, all.room, ap length_all whole, length_all_append (take i es) (get_or es i d ∷ drop (suc i) es))

  -- where an entry begins
  pub lies_offset : (i : ℕ) → i ≤ length es → offset b i ≡ length_all (take i es)
  unfolding offset length_all
  lies_offset zero h = refl
  lies_offset (suc i) h =
      let o : offset b i ≡ length_all (take i es) = lies_offset i (omega arith) in
      ap (λ (k : ℕ). k + length_at b k) o
      ∙ ap (λ (k : ℕ). length_all (take i es) + k) (length_here i h)
      ∙ sym (next_here i h)

  -- the book's end
  pub lies_end : offset b (length es) ≡ length_all es
  lies_end = lies_offset (length es) (omega arith) ∙ ap length_all (take-length es)

  module _ (i : ℕ) (h : i < length es) where
    low : offset b i ≡ length_all (take i es)
    low = lies_offset i (omega arith)

    -- the entry that stands there
    pub lies_entry : entry_at b (offset b i) ≡ some (get_or es i d)
    lies_entry = ap (entry_at b) low ∙ read_here i h

    -- and so its fields
    lies_fields : get_or es i d ≡ entry_of (entry_tells b (offset b i) (get_or es i d) lies_entry).0 b (offset b i)
    lies_fields = (entry_tells b (offset b i) (get_or es i d) lies_entry).2

    pub lies_length : length_at b (offset b i) ≡ length_of (get_or es i d).request
    lies_length = ap (length_at b) low ∙ length_here i h

    pub lies_kind : kind_at b (offset b i) ≡ kind_number (get_or es i d).request
    lies_kind = sym (entry_kind b (offset b i) (get_or es i d) lies_entry)

    pub lies_within : offset b i + length_of (get_or es i d).request ≤ length b
    lies_within = omega (arith, low, room_here i h)

    pub lies_whole : HasEntry b (offset b i)
    lies_whole =
        let size : length_in (kind_of (kind_at b (offset b i))) ≡ length_of (get_or es i d).request = ap (λ (k : ℕ). length_in (kind_of k)) lies_kind in
        record { known = omega (arith, size, length_least (get_or es i d)); room = omega (arith, size, lies_within) }

    pub lies_serial : serial_at b (offset b i) ≡ suc i
    lies_serial = ap (λ (x : Entry). x.serial) (sym lies_fields) ∙ omega (arith, (mid i h).1.0, length-take-le i es (omega arith))

    pub lies_place : place_at b (offset b i) ≡ used_all (take i es)
    lies_place = ap (λ (x : Entry). x.place) (sym lies_fields) ∙ omega (arith, (mid i h).1.1)

    pub lies_used : used_all (take (suc i) es) ≡ used_all (take i es) + used_at b (offset b i)
    lies_used = used_here i h ∙ ap (λ (k : ℕ). used_all (take i es) + k) (ap (λ (x : Entry). x.used) lies_fields)

    -- its numbers fit their fields
    pub lies_fits : Fits (get_or es i d)
    lies_fits = (mid i h).0

    -- its place is on the tape
    pub lies_on_tape : (get_or es i d).place ≤ t
    unfolding used_all
    lies_on_tape = omega (arith, (mid i h).1.1, all.tape, ap used_all (take-append-drop i es), used_all_append (take i es) (drop i es))

  pub lies_used_before : (i : ℕ) → i ≤ length es → used_before b i ≡ used_all (take i es)
  unfolding used_before used_all
  lies_used_before zero h = refl
  lies_used_before (suc i) h = ap (λ (k : ℕ). k + used_at b (offset b i)) (lies_used_before i (omega arith)) ∙ sym (lies_used i h)

  -- so many entries lie one after another
  pub lies_reach : (k : ℕ) → k ≤ length es → Reaches b k
  unfolding offset
  lies_reach k h i l =
      let r = lies_within i (omega arith) in
      let s = length_least (get_or es i d) in
      (omega arith, omega (arith, lies_length i (omega arith)))
