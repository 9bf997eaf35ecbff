-- The two laws of a book: what is encoded decodes, and what decodes is the encoding of its entries and zeros. Assumes nothing.
use mathlib.Core.Path.{◌≡◌, refl, sym, ap, ap₂, ◌∙◌}
use mathlib.Core.Bool.{Bool, true, false, cond, ◌&&◌, ◌||◌, or-true, and-eq-true_iff}
use mathlib.Core.List.{List, [], ◌∷◌, ◌++◌, append_assoc}
use mathlib.Core.Option.{Option, none, some, map, get_or}
use Prim.Native.Nat.{ℕ, zero, suc, ◌+◌, ◌*◌, ◌-◌, ◌<◌, ◌≤◌}
use native.Mathlib.Nat.{le_of_suc-le-suc, not-suc-le-zero}
use native.Mathlib.Omega.{arith}
use lib.Dec.{eqb, leb, ltb}
use lib.ListN.{length, drop, replicate, length-append, length-replicate, length-drop, take-append-drop}
use borrow.Author.Tests.{le-ltb, le-leb, eq-eqb, ne_eqb, ltb-false, leb-true, eqb-true, eqb-false}
use Rattle.bytes_le.specs.Zeros.{all_zero}
use Rattle.bytes_le.proofs.Numbers.{Bytes, bytes_drop, spelled_zeros}
use Rattle.bytes_le.proofs.Zeros.{zeros_are, are_zeros}
use Rattle.layout.specs.declared.Head.{Head}
use Rattle.layout.specs.declared.Head.TheVariants.{End, Damage, Next}
use Rattle.kinds.specs.declared.Request.{Request}
use Rattle.kinds.specs.Kinds.{fixed_length, kind_of, length_in, length_of}
use Rattle.kinds.proofs.Requests.{request_length}
use Rattle.entry.specs.declared.Entry.{Entry}
use Rattle.entry.specs.Entry.{entry_bytes, length_at, kind_at, serial_at, place_at, used_at, request_at, entry_of}
use Rattle.layout.specs.Book.{entries_bytes, length_all, used_all, encode, is_end, is_fitting, head, on_head, is_closed, decode_from, decode, is_none}
use Rattle.entry.proofs.Entries.{Fits, length_entry, entry_read, length_read, kind_read, serial_read, place_read, used_read, rest_read, request_there, entry_there, entry_fits, entry_length, entry_written}

-- a test's two cases, with what it says
pub by-test {ℓ κ} : {X : Type ℓ} (P : X → Type κ) (b : Bool) {x y : X} → (b ≡ true → P x) → (b ≡ false → P y) → P (cond b x y)
by-test P true f g = f refl
by-test P false f g = g refl

pub neither_holds : (a b : Bool) → (a || b) ≡ false → (a ≡ false) × (b ≡ false)
neither_holds true b e = let z : ◌≡◌ {A = ℕ} 0 1 = cc in absurd (omega arith)
neither_holds false b e = (refl, e)

-- ---- the front of the bytes that are left

-- an entry that fits stands there, with the serial and the place that are due
pub record Fitting (s p : ℕ) (l : List ℕ) : Type 0 where
  pub begins : 2 ≤ length l
  pub nonzero : length_at l 0 ≡ 0 → ⊥
  pub sized : length_at l 0 ≡ length_in (kind_of (kind_at l 0))
  pub inside : length_at l 0 ≤ length l
  pub due : serial_at l 0 ≡ s
  pub placed : place_at l 0 ≡ p

module _ (s p : ℕ) (l : List ℕ) where
  pub head_end : is_end l ≡ true → head s p l ≡ End
  unfolding head
  head_end e = rw e

  pub head_fitting : Fitting s p l → head s p l ≡ Next
  unfolding head
  head_fitting f =
      rw (
        le-ltb (length l) 2 f.begins,
        ne_eqb (length_at l 0) 0 f.nonzero,
        eq-eqb (length_at l 0) (length_in (kind_of (kind_at l 0))) f.sized,
        le-leb (length_at l 0) (length l) f.inside,
        eq-eqb (serial_at l 0) s f.due,
        eq-eqb (place_at l 0) p f.placed,
      )

  fitting : is_end l ≡ false → (is_fitting l && eqb (serial_at l 0) s && eqb (place_at l 0) p) ≡ true → Fitting s p l
  fitting e f =
      let more = neither_holds (ltb (length l) 2) (eqb (length_at l 0) 0) e in
      let a = (and-eq-true_iff (is_fitting l && eqb (serial_at l 0) s) (eqb (place_at l 0) p)).0 f in
      let b = (and-eq-true_iff (is_fitting l) (eqb (serial_at l 0) s)).0 a.0 in
      let c = (and-eq-true_iff (eqb (length_at l 0) (length_in (kind_of (kind_at l 0)))) (leb (length_at l 0) (length l))).0 b.0 in
      record {
        begins = ltb-false (length l) 2 more.0;
        nonzero = eqb-false (length_at l 0) 0 more.1;
        sized = eqb-true (length_at l 0) (length_in (kind_of (kind_at l 0))) c.0;
        inside = leb-true (length_at l 0) (length l) c.1;
        due = eqb-true (serial_at l 0) s b.1;
        placed = eqb-true (place_at l 0) p a.1;
      }

  pub head_next : head s p l ≡ Next → Fitting s p l
  unfolding head
  head_next =
      let P : Head → Type 0 = λ h. h ≡ Next → Fitting s p l in
      by-test P (is_end l) (λ _ q. let z : ◌≡◌ {A = ℕ} 0 1 = cc in absurd (omega arith))
      (λ e. by-test P (is_fitting l && eqb (serial_at l 0) s && eqb (place_at l 0) p) (λ f _. fitting e f)
      (λ _ q. let z : ◌≡◌ {A = ℕ} 0 1 = cc in absurd (omega arith)))

  -- an entry of the table's kinds
  pub fitting_known : Fitting s p l → 0 < length_in (kind_of (kind_at l 0))
  fitting_known f = omega (arith, f.nonzero, f.sized)

  -- with a request, whose length is the one that stands there
  pub fitting_request : Fitting s p l → (q : Request) × (request_at fixed_length l 0 ≡ some q)
  fitting_request f = request_there fixed_length l 0 (fitting_known f)

  pub fitting_size : Bytes l → Fitting s p l → (q : Request) → request_at fixed_length l 0 ≡ some q → length_of q ≡ length_at l 0
  fitting_size by f q asked = entry_length l by q asked ∙ sym f.sized

-- every entry has its fixed fields
pub length_least : (e : Entry) → fixed_length ≤ length_of e.request
length_least e = omega (arith, request_length e.request)

entry_fitting : (e : Entry) (r : List ℕ) → Fits e → Fitting e.serial e.place (entry_bytes e ++ r)
entry_fitting e r fits =
    let len = length_read e r fits in
    let all : length (entry_bytes e ++ r) ≡ length_of e.request + length r = length-append (entry_bytes e) r ∙ ap (λ (k : ℕ). k + length r) (length_entry e) in
    record {
      begins = omega (arith, all, length_least e);
      nonzero = λ z. omega (arith, len, length_least e);
      sized = len ∙ ap (λ (k : ℕ). length_in (kind_of k)) (sym (kind_read e r fits));
      inside = omega (arith, all, len);
      due = serial_read e r fits;
      placed = place_read e r fits;
    }

-- ---- what is encoded decodes

-- entries that follow one another: serials from s on, places from p on
abbrev pub Chain : ℕ → ℕ → List Entry → Type 0
Chain s p [] = Unit
Chain s p (e ∷ es) = (Fits e × ((e.serial ≡ s) × (e.place ≡ p))) × Chain (s + 1) (p + e.used) es

head_zeros : (s p n : ℕ) → head s p (replicate n 0) ≡ End
head_zeros s p n = head_end s p (replicate n 0) (rw spelled_zeros (or-true (ltb (length (replicate {A = ℕ} n 0)) 2)))

decodes_from : (es : List Entry) (f t s p n : ℕ) → Chain s p es → length es < f → p + used_all es ≤ t
    → decode_from f t s p (entries_bytes es ++ replicate n 0) ≡ some es
unfolding decode_from entries_bytes used_all
decodes_from es zero t s p n c h u = absurd (not-suc-le-zero h)
decodes_from [] (suc f) t s p n c h u = rw (head_zeros s p n, le-leb p t (omega arith), zeros_are n)
decodes_from (e ∷ es) (suc f) t s p n c h u =
    let r : List ℕ = entries_bytes es ++ replicate n 0 in
    let fits : Fits e = c.0.0 in
    let hd : head s p (entry_bytes e ++ r) ≡ Next =
    ap₂ (λ (a b : ℕ). head a b (entry_bytes e ++ r)) (sym c.0.1.0) (sym c.0.1.1) ∙ head_fitting e.serial e.place (entry_bytes e ++ r) (entry_fitting e r fits) in
    let rest : decode_from f t (s + 1) (p + e.used) r ≡ some es = decodes_from es f t (s + 1) (p + e.used) n c.1 (le_of_suc-le-suc h) (omega arith) in
    rw (append_assoc (entry_bytes e) (entries_bytes es) (replicate n 0), hd, rest_read e r fits, entry_read e r fits, used_read e r fits, rest)

pub length_entries : (es : List Entry) → length (entries_bytes es) ≡ length_all es
unfolding entries_bytes length_all
length_entries [] = refl
length_entries (e ∷ es) = simp length-append (omega (arith, length_entry e, length_entries es))

-- so many entries take so many bytes
pub many : (es : List Entry) → fixed_length * length es ≤ length_all es
unfolding length_all
many [] = omega arith
many (e ∷ es) = omega (arith, length_least e, many es)

pub length_encode : (n : ℕ) (es : List Entry) → length_all es ≤ n → length (encode n es) ≡ n
unfolding encode
length_encode n es h = simp (length-append, length-replicate) (omega (arith, length_entries es))

-- the first law
pub encode_decodes : (t n : ℕ) (es : List Entry) → Chain 1 0 es → length_all es ≤ n → used_all es ≤ t → decode t (encode n es) ≡ some es
unfolding decode
encode_decodes t n es c h u =
    unfold encode in
    decodes_from es (suc (length (encode n es))) t 1 0 (n - length_all es) c (omega (arith, length_encode n es h, many es)) (omega arith)

pub zeros_equal : (m k : ℕ) → m ≡ k → replicate {A = ℕ} m 0 ≡ replicate k 0
zeros_equal m k e = ap (λ (i : ℕ). replicate {A = ℕ} i 0) e

-- zero bytes are the book of no entries
pub no_entries : (n : ℕ) → encode n [] ≡ replicate n 0
unfolding encode entries_bytes length_all
no_entries n = zeros_equal (n - 0) n (omega arith)

pub zeros_decode : (t n : ℕ) → decode t (replicate n 0) ≡ some []
unfolding length_all used_all
zeros_decode t n = rw (← no_entries n) (encode_decodes t n [] tt (omega arith) (omega arith))

-- ---- what decodes is the encoding of its entries and zeros

-- the bytes l are those of the entries es, from the serial s and the place p on, and zeros
pub record Written (t s p : ℕ) (l : List ℕ) (es : List Entry) : Type 0 where
  pub chain : Chain s p es
  pub tape : p + used_all es ≤ t
  pub room : length_all es ≤ length l
  pub bytes : l ≡ entries_bytes es ++ replicate (length l - length_all es) 0

by_head : {X : Type 0} (h : Head) (x y z : Option (List Entry)) (es : List Entry)
    → on_head h x y z ≡ some es → (h ≡ End → x ≡ some es → X) → (h ≡ Damage → y ≡ some es → X) → (h ≡ Next → z ≡ some es → X) → X
by_head End x y z es q f g k = f refl q
by_head Damage x y z es q f g k = g refl q
by_head Next x y z es q f g k = k refl q

by_entry : {X : Type 0} (e : Entry) (o : Option (List Entry)) (es : List Entry) → map (λ (fs : List Entry). e ∷ fs) o ≡ some es → ((fs : List Entry) → o ≡ some fs → es ≡ e ∷ fs → X) → X
by_entry e none es q f = let z : ◌≡◌ {A = ℕ} 0 1 = cc in absurd (omega arith)
by_entry e (some fs) es q f = f fs refl cc

nothing_written : (t s p : ℕ) (l : List ℕ) → p ≤ t → all_zero l ≡ true → Written t s p l []
unfolding used_all length_all entries_bytes
nothing_written t s p l a z =
    record { chain = tt; tape = omega arith; room = omega arith; bytes = are_zeros l z ∙ zeros_equal (length l) (length l - 0) (omega arith) }

ended : (t s p : ℕ) (l : List ℕ) (es : List Entry) → cond {A = Option (List Entry)} (is_closed t p l) (some []) none ≡ some es → Written t s p l es
ended t s p l es =
    by-test (λ (o : Option (List Entry)). o ≡ some es → Written t s p l es) (is_closed t p l)
    (λ a q.
    let z = (and-eq-true_iff (leb p t) (all_zero l)).0 a in
    let e : es ≡ [] = cc in
    rw e (nothing_written t s p l (leb-true p t z.0) z.1))
    (λ _ q. let z : ◌≡◌ {A = ℕ} 0 1 = cc in absurd (omega arith))

one_more : (t s p : ℕ) (l : List ℕ) (fs : List Entry) → Bytes l → Fitting s p l → (q : Request) → request_at fixed_length l 0 ≡ some q
    → Written t (s + 1) (p + used_at l 0) (drop (length_at l 0) l) fs → Written t s p l (entry_of q l 0 ∷ fs)
unfolding length_all used_all entries_bytes
one_more t s p l fs by ft q asked wr =
    let size : length_of q ≡ length_at l 0 = fitting_size s p l by ft q asked in
    let left : length (drop (length_at l 0) l) ≡ length l - length_at l 0 = length-drop (length_at l 0) l in
    let k : ℕ = length (drop (length_at l 0) l) - length_all fs in
    record {
      chain = ((entry_fits l by q asked, (ft.due, ft.placed)), wr.chain);
      tape = omega arith;
      room = omega (arith, ft.inside);
      bytes =
          sym (take-append-drop (length_at l 0) l)
          ∙ ap₂ (λ (a b : List ℕ). a ++ b) (sym (entry_written l by q asked ft.sized ft.inside)) wr.bytes
          ∙ sym (append_assoc (entry_bytes (entry_of q l 0)) (entries_bytes fs) (replicate k 0))
          ∙ ap (λ (z : List ℕ). (entry_bytes (entry_of q l 0) ++ entries_bytes fs) ++ z)
          (zeros_equal k (length l - (length_of q + length_all fs)) (omega (arith, ft.inside, wr.room)));
    }

written_from : (f t s p : ℕ) (l : List ℕ) (es : List Entry) → Bytes l → decode_from f t s p l ≡ some es → Written t s p l es
unfolding decode_from
written_from zero t s p l es by q = let z : ◌≡◌ {A = ℕ} 0 1 = cc in absurd (omega arith)
written_from (suc f) t s p l es by q =
    by_head (head s p l) _ _ _ es q
    (λ _ e. ended t s p l es e)
    (λ _ e. let z : ◌≡◌ {A = ℕ} 0 1 = cc in absurd (omega arith))
    (λ h e.
    let ft = head_next s p l h in
    let r = fitting_request s p l ft in
    by_entry (entry_of r.0 l 0) _ es (rw (entry_there l 0 r.0 r.1) at e)
    (λ fs d j.
    rw j
    (one_more t s p l fs by ft r.0 r.1
    (written_from f t (s + 1) (p + used_at l 0) (drop (length_at l 0) l) fs (bytes_drop l (length_at l 0) by) d))))

module _ (t : ℕ) (b : List ℕ) (es : List Entry) (by : Bytes b) (so : decode t b ≡ some es) where
  pub written : Written t 1 0 b es
  unfolding decode
  written = written_from (suc (length b)) t 1 0 b es by so

  -- the second law
  pub decode_encodes : b ≡ encode (length b) es
  unfolding encode
  decode_encodes = written.bytes

-- a book that is not damaged has entries
pub is_some : (o : Option (List Entry)) → is_none o ≡ false → o ≡ some (get_or o [])
is_some none e = let z : ◌≡◌ {A = ℕ} 0 1 = cc in absurd (omega arith)
is_some (some es) e = refl
