-- Laws of one entry: what was written is read, and what was read is written. Assumes nothing.
use mathlib.Core.Path.{◌≡◌, refl, sym, ap, ap₂, ◌∙◌}
use mathlib.Core.List.{List, [], ◌∷◌, ◌++◌, append_assoc}
use mathlib.Core.Option.{Option, none, some, map}
use Prim.Native.Nat.{ℕ, zero, suc, ◌+◌, ◌*◌, ◌^◌, ◌<◌, ◌≤◌}
use native.Mathlib.Omega.{arith}
use lib.ListN.{get_or, get_or-eq_default, length, take, drop, length-append, length-drop}
use lib.Seq.{drop_at, take-add, drop-drop}
use Rattle.std.proofs.Common.{w8}
use Rattle.std.proofs.Common.{Fits as FitsWord}
use Rattle.bytes_le.specs.LittleEndian.{bytes_of, spelled, words_from}
use Rattle.bytes_le.proofs.Numbers.{Bytes, bytes_drop, length_bytes, spelled_bytes, spelled_lt, bytes_spelled, length_words, word_at}
use Rattle.kinds.specs.declared.Request.{Request}
use Rattle.std.specs.Prelude.{None, Some}
use Rattle.kinds.specs.declared.Row.{Row}
use Rattle.kinds.specs.Kinds.{fixed_length, kind_of, length_in, parameters_in, kind_number, parameters_of, length_of, request_of, AllFit, RequestFits}
use Rattle.kinds.specs.Inner.{row_of}
use Rattle.kinds.proofs.Table.{shape_length, length_small}
use Rattle.kinds.proofs.Requests.{request_known, request_shape, request_length, request_again, kind_fits, kind_again, known_request, row_asks, row_asks_none}
use Rattle.entry.specs.declared.Entry.{Entry}
use Rattle.entry.specs.Entry.{booking, parameter_bytes, fixed_bytes, entry_bytes, length_at, kind_at, serial_at, place_at, used_at, count_at, parameters_at, request_at, entry_of, entry_at}
use Rattle.entry.specs.Inner.{HasEntry, row_at}

-- an entry's numbers fit their fields
pub record Fits (e : Entry) : Type 0 where
  pub request_fits : RequestFits e.request
  pub serial_fits : e.serial < 2 ^ 32
  pub place_fits : e.place < 2 ^ 32
  pub used_fits : e.used < 2 ^ 32
  pub count_fits : e.count < 2 ^ 64

-- ---- what was written is read

read_parameters : (ps : List ℕ) (r : List ℕ) → AllFit ps → words_from (length ps) (parameter_bytes ps ++ r) ≡ ps
unfolding words_from parameter_bytes
read_parameters [] r h = refl
read_parameters (x ∷ xs) r h =
    let whole = append_assoc (bytes_of 8 x) (parameter_bytes xs) r in
    ap₂ (λ (a : ℕ) (b : List ℕ). a ∷ b) (ap (spelled 8) whole ∙ spelled_bytes 8 x (parameter_bytes xs ++ r) h.0)
    (ap (λ (l : List ℕ). words_from (length xs) (drop 8 l)) whole
    ∙ ap (words_from (length xs)) (drop_at (bytes_of 8 x) (parameter_bytes xs ++ r) 8 (length_bytes 8 x))
    ∙ read_parameters xs r h.1)

length_parameters : (ps : List ℕ) → length (parameter_bytes ps) ≡ 8 * length ps
unfolding parameter_bytes
length_parameters [] = refl
length_parameters (x ∷ xs) = simp (length-append, length_bytes) (omega (arith, length_parameters xs))

-- a request's entry is its fixed fields and 8 bytes for each of its kind's parameters
pub request_room : (r : Request) → length_of r ≡ fixed_length + 8 * parameters_in (kind_of (kind_number r))
request_room r = shape_length (kind_number r) (request_known r)

pub length_fixed : (e : Entry) → length (fixed_bytes e) ≡ fixed_length
unfolding fixed_bytes
length_fixed e = simp (length-append, length_bytes)

pub length_entry : (e : Entry) → length (entry_bytes e) ≡ length_of e.request
unfolding entry_bytes
length_entry e =
    length-append (fixed_bytes e) (parameter_bytes (parameters_of e.request))
    ∙ omega (arith, length_fixed e, length_parameters (parameters_of e.request), request_length e.request)

-- the fields as they lie, before the bytes r
fields : Entry → List ℕ → List ℕ
fields e r =
    bytes_of 2 (length_of e.request)
    ++ (bytes_of 2 (kind_number e.request)
    ++ (bytes_of 4 e.serial
    ++ (bytes_of 4 e.place
    ++ (bytes_of 4 e.used
    ++ (bytes_of 8 e.count
    ++ (parameter_bytes (parameters_of e.request) ++ r))))))

as_fields : (e : Entry) (r : List ℕ) → entry_bytes e ++ r ≡ fields e r
unfolding entry_bytes fixed_bytes fields
as_fields e r = simp append_assoc

module _ (e : Entry) (r : List ℕ) (fits : Fits e) where
  read_length : length_at (fields e r) 0 ≡ length_of e.request
  unfolding fields
  read_length = spelled_bytes 2 (length_of e.request) _ (length_small (kind_number e.request))

  read_kind : kind_at (fields e r) 0 ≡ kind_number e.request
  unfolding fields bytes_of
  read_kind = spelled_bytes 2 (kind_number e.request) _ (kind_fits e.request)

  read_serial : serial_at (fields e r) 0 ≡ e.serial
  unfolding fields bytes_of
  read_serial = spelled_bytes 4 e.serial _ fits.serial_fits

  read_place : place_at (fields e r) 0 ≡ e.place
  unfolding fields bytes_of
  read_place = spelled_bytes 4 e.place _ fits.place_fits

  read_used : used_at (fields e r) 0 ≡ e.used
  unfolding fields bytes_of
  read_used = spelled_bytes 4 e.used _ fits.used_fits

  read_count : count_at (fields e r) 0 ≡ e.count
  unfolding fields bytes_of
  read_count = spelled_bytes 8 e.count _ fits.count_fits

  read_rest : words_from (parameters_in (kind_of (kind_number e.request))) (drop fixed_length (fields e r)) ≡ parameters_of e.request
  unfolding fields bytes_of
  read_rest =
      ap (λ (k : ℕ). words_from k (parameter_bytes (parameters_of e.request) ++ r)) (sym (request_shape e.request))
      ∙ read_parameters (parameters_of e.request) r fits.request_fits

  read_request : request_at fixed_length (fields e r) 0 ≡ some e.request
  read_request =
      ap (λ (k : ℕ). request_of k (words_from (parameters_in (kind_of k)) (drop fixed_length (fields e r)))) read_kind
      ∙ ap (request_of (kind_number e.request)) read_rest
      ∙ request_again e.request

  read_others : entry_of e.request (fields e r) 0 ≡ e
  read_others = λ i. record { request = e.request; serial = read_serial i; place = read_place i; used = read_used i; count = read_count i }

  read_fields : entry_at (fields e r) 0 ≡ some e
  unfolding entry_at
  read_fields = ap (map (λ (q : Request). entry_of q (fields e r) 0)) read_request ∙ ap some read_others

  -- an entry's bytes are read as the entry, whatever follows them
  pub entry_read : entry_at (entry_bytes e ++ r) 0 ≡ some e
  entry_read = ap (λ (l : List ℕ). entry_at l 0) (as_fields e r) ∙ read_fields

  pub length_read : length_at (entry_bytes e ++ r) 0 ≡ length_of e.request
  length_read = ap (λ (l : List ℕ). length_at l 0) (as_fields e r) ∙ read_length

  pub kind_read : kind_at (entry_bytes e ++ r) 0 ≡ kind_number e.request
  kind_read = ap (λ (l : List ℕ). kind_at l 0) (as_fields e r) ∙ read_kind

  pub serial_read : serial_at (entry_bytes e ++ r) 0 ≡ e.serial
  serial_read = ap (λ (l : List ℕ). serial_at l 0) (as_fields e r) ∙ read_serial

  pub place_read : place_at (entry_bytes e ++ r) 0 ≡ e.place
  place_read = ap (λ (l : List ℕ). place_at l 0) (as_fields e r) ∙ read_place

  pub used_read : used_at (entry_bytes e ++ r) 0 ≡ e.used
  used_read = ap (λ (l : List ℕ). used_at l 0) (as_fields e r) ∙ read_used

  pub rest_read : drop (length_at (entry_bytes e ++ r) 0) (entry_bytes e ++ r) ≡ r
  rest_read = ap (λ (k : ℕ). drop k (entry_bytes e ++ r)) length_read ∙ drop_at (entry_bytes e) r (length_of e.request) (length_entry e)

-- ---- what was read is written

written_parameters : (k : ℕ) (l : List ℕ) → Bytes l → 8 * k ≤ length l → parameter_bytes (words_from k l) ≡ take (8 * k) l
unfolding words_from parameter_bytes
written_parameters zero l h f = refl
written_parameters (suc k) l h f =
    let e : 8 * suc k ≡ 8 + 8 * k = omega arith in
    ap₂ (λ (a b : List ℕ). a ++ b) (bytes_spelled 8 l h (omega arith))
    (written_parameters k (drop 8 l) (bytes_drop l 8 h) (rw length-drop (omega arith)))
    ∙ sym (ap (λ (m : ℕ). take m l) e ∙ take-add 8 (8 * k) l)

parameters_fit : (k : ℕ) (l : List ℕ) → Bytes l → AllFit (words_from k l)
unfolding words_from
parameters_fit zero l h = tt
parameters_fit (suc k) l h = (spelled_lt 8 l h, parameters_fit k (drop 8 l) (bytes_drop l 8 h))

-- a field read and written again is the bytes that were there
field : (k i : ℕ) (l : List ℕ) → Bytes l → i + k ≤ length l → bytes_of k (spelled k (drop i l)) ≡ take k (drop i l)
field k i l h f = bytes_spelled k (drop i l) (bytes_drop l i h) (rw length-drop (omega arith))

-- ---- a parameter

-- the word i of those that begin at `at`
pub word_read : (b : List ℕ) (at n i r : ℕ) → i < n → r ≡ spelled 8 (drop (at + 8 * i) b) → r ≡ get_or (words_from n (drop at b)) i 0
word_read b at n i r h e = e ∙ ap (spelled 8) (sym (drop-drop (8 * i) at b)) ∙ sym (word_at n (drop at b) i h)

pub none_left : (b : List ℕ) (at n i : ℕ) → n ≤ i → 0 ≡ get_or (words_from n (drop at b)) i 0
none_left b at n i h =
    let past : length (words_from n (drop at b)) ≤ i = omega (arith, length_words n (drop at b)) in
    sym (get_or-eq_default (words_from n (drop at b)) 0 past)

-- ---- an entry that lies whole

-- its fixed fields lie within the bytes
pub fixed_room : (b : List ℕ) (i : ℕ) → HasEntry b i → i + fixed_length ≤ length b
fixed_room b i h = omega (arith, h.room, shape_length (kind_at b i) h.known)

-- and so do its parameters
pub parameters_room : (b : List ℕ) (i k n : ℕ) → HasEntry b i → k ≡ kind_at b i → n ≡ parameters_in (kind_of k) → i + fixed_length + 8 * n ≤ length b
parameters_room b i k n h ek en =
    let e : n ≡ parameters_in (kind_of (kind_at b i)) = en ∙ ap (λ (m : ℕ). parameters_in (kind_of m)) ek in
    omega (arith, h.room, shape_length (kind_at b i) h.known)

-- the row of what was read
pub row_read : (f : ℕ) (b : List ℕ) (i k n x y z : ℕ) → k ≡ kind_at b i → n ≡ parameters_in (kind_of k)
    → x ≡ get_or (words_from n (drop (i + f) b)) 0 0 → y ≡ get_or (words_from n (drop (i + f) b)) 1 0 → z ≡ get_or (words_from n (drop (i + f) b)) 2 0
    → row_of k x y z ≡ row_at f b i
row_read f b i k n x y z ek en ex ey ez = rw (ex, ey, ez, en, ek)

-- two bytes spell a number of 16 bits
pub kind_small : (b : List ℕ) (at k : ℕ) → ((i : ℕ) → FitsWord w8 (get_or b i 0)) → k ≡ spelled 2 (drop (at + 2) b) → k < 2 ^ 16
kind_small b at k fits e =
    let by : Bytes b = λ i. (fits i).fits in
    omega (arith, e, spelled_lt 2 (drop (at + 2) b) (bytes_drop b (at + 2) by))

-- where a kind of the table stands there is a request, whatever the length of the fixed fields
pub request_there : (f : ℕ) (l : List ℕ) (i : ℕ) → 0 < length_in (kind_of (kind_at l i)) → (q : Request) × (request_at f l i ≡ some q)
request_there f l i known = known_request (kind_at l i) (parameters_at f l i) known

-- and the table's row is the one that it makes
pub row_request : (f : ℕ) (l : List ℕ) (i : ℕ) (w : Row) → Some w ≡ row_at f l i → request_at f l i ≡ some w.request
row_request f l i w e = row_asks (kind_at l i) (parameters_at f l i) w e

pub row_there : {A : Type 0} (f : ℕ) (l : List ℕ) (i : ℕ) → 0 < length_in (kind_of (kind_at l i)) → None ≡ row_at f l i → A
row_there f l i known u =
    let asked = (request_there f l i known).1 in
    let z : ◌≡◌ {A = ℕ} 0 1 = cc (row_asks_none (kind_at l i) (parameters_at f l i) u) in
    absurd (omega arith)

-- and with it an entry
pub entry_there : (l : List ℕ) (i : ℕ) (q : Request) → request_at fixed_length l i ≡ some q → entry_at l i ≡ some (entry_of q l i)
unfolding entry_at
entry_there l i q asked = ap (map (λ (x : Request). entry_of x l i)) asked

-- of the row's request and the fields that were read
pub entry_made : (l : List ℕ) (i : ℕ) (w : Row) (s p u c : ℕ) → Some w ≡ row_at fixed_length l i
    → s ≡ serial_at l i → p ≡ place_at l i → u ≡ used_at l i → c ≡ count_at l i → entry_at l i ≡ some (booking w.request s p u c)
entry_made l i w s p u c e es ep eu ec =
    entry_there l i w.request (row_request fixed_length l i w e) ∙ sym (λ j. some (booking w.request (es j) (ep j) (eu j) (ec j)))

-- the other way round: an entry that is read has the fields that stand there
pub entry_tells : (l : List ℕ) (i : ℕ) (e : Entry) → entry_at l i ≡ some e → (q : Request) × (request_at fixed_length l i ≡ some q) × (e ≡ entry_of q l i)
unfolding entry_at
entry_tells l i e here = go (request_at fixed_length l i) refl here
  where
    go : (o : Option Request) → request_at fixed_length l i ≡ o → map (λ (x : Request). entry_of x l i) o ≡ some e
        → (q : Request) × (request_at fixed_length l i ≡ some q) × (e ≡ entry_of q l i)
    go none a h = let z : ◌≡◌ {A = ℕ} 0 1 = cc in absurd (omega arith)
    go (some q) a h = (q, a, cc)

-- and its request is of the kind that stands there
pub entry_kind : (l : List ℕ) (i : ℕ) (e : Entry) → entry_at l i ≡ some e → kind_number e.request ≡ kind_at l i
entry_kind l i e here =
    let t = entry_tells l i e here in
    ap (λ (x : Entry). kind_number x.request) t.2
    ∙ (kind_again (kind_at l i) (parameters_at fixed_length l i) t.0 (length_words (parameters_in (kind_of (kind_at l i))) (drop (i + fixed_length) l)) t.1).0

module _ (l : List ℕ) (by : Bytes l) (q : Request) (asked : request_at fixed_length l 0 ≡ some q) where
  abbrev kind : ℕ
  kind = kind_at l 0

  again : (kind_number q ≡ kind_at l 0) × (parameters_of q ≡ parameters_at fixed_length l 0)
  again = kind_again kind (parameters_at fixed_length l 0) q (length_words (parameters_in (kind_of kind)) (drop fixed_length l)) asked

  -- its numbers fit their fields
  pub entry_fits : Fits (entry_of q l 0)
  entry_fits =
      record {
        request_fits = rw again.1 (parameters_fit (parameters_in (kind_of kind)) (drop fixed_length l) (bytes_drop l fixed_length by));
        serial_fits = spelled_lt 4 (drop 4 l) (bytes_drop l 4 by);
        place_fits = spelled_lt 4 (drop 8 l) (bytes_drop l 8 by);
        used_fits = spelled_lt 4 (drop 12 l) (bytes_drop l 12 by);
        count_fits = spelled_lt 8 (drop 16 l) (bytes_drop l 16 by);
      }

  pub entry_length : length_of q ≡ length_in (kind_of (kind_at l 0))
  entry_length = ap (λ (k : ℕ). length_in (kind_of k)) again.0

  -- what was read and is written again
  module _ (sized : length_at l 0 ≡ length_in (kind_of (kind_at l 0))) (inside : length_at l 0 ≤ length l) where
    abbrev n : ℕ
    n = parameters_in (kind_of kind)

    long : length_at l 0 ≡ fixed_length + 8 * n
    long = sized ∙ shape_length kind (rw entry_length at (request_known q))

    -- the k bytes from i on and the m after them are the k + m from i on
    glue : (i k m : ℕ) → take k (drop i l) ++ take m (drop (i + k) l) ≡ take (k + m) (drop i l)
    glue i k m = ap (λ (x : List ℕ). take k (drop i l) ++ take m x) (sym (drop-drop k i l)) ∙ sym (take-add k m (drop i l))

    fixed_written : fixed_bytes (entry_of q l 0) ≡ take fixed_length l
    unfolding fixed_bytes
    fixed_written =
        let room : fixed_length + 8 * n ≤ length l = omega (arith, long, inside) in
        let f0 : bytes_of 2 (length_of q) ≡ take 2 l = ap (bytes_of 2) (entry_length ∙ sym sized) ∙ bytes_spelled 2 l by (omega arith) in
        let f1 : bytes_of 2 (kind_number q) ≡ take 2 (drop 2 l) = ap (bytes_of 2) again.0 ∙ field 2 2 l by (omega arith) in
        rw (f0, f1, field 4 4 l by (omega arith), field 4 8 l by (omega arith), field 4 12 l by (omega arith), field 8 16 l by (omega arith))
        (rw (glue 12 4 8, glue 8 4 12, glue 4 4 16, glue 2 2 20) (sym (take-add 2 22 l)))

    pub entry_written : entry_bytes (entry_of q l 0) ≡ take (length_at l 0) l
    unfolding entry_bytes
    entry_written =
        let room : fixed_length + 8 * n ≤ length l = omega (arith, long, inside) in
        ap₂ (λ (a b : List ℕ). a ++ b) fixed_written
        (ap parameter_bytes again.1 ∙ written_parameters n (drop fixed_length l) (bytes_drop l fixed_length by) (rw length-drop (omega arith)))
        ∙ sym (ap (λ (m : ℕ). take m l) long ∙ take-add fixed_length (8 * n) l)
