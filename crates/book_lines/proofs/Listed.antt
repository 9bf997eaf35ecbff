-- Laws of the listing: an entry's line as it is read, the entries of a sound book and their lines, and the listing's three ways.
-- Assumes nothing.
use mathlib.Core.Bool.{true, false}
use mathlib.Core.Path.{◌≡◌, refl, sym, ap, ◌∙◌}
use mathlib.Core.List.{List, [], ◌∷◌, ◌++◌}
use mathlib.Core.Option
use mathlib.Core.Option.{Option, some}
use Prim.Native.Nat.{ℕ, suc, ◌+◌, ◌*◌, ◌≤◌, ◌<◌}
use native.Mathlib.Nat.{add-zero}
use native.Mathlib.Omega.{arith}
use lib.ListN.{length, get_or, replicate, length-append, length-replicate}
use borrow.Author.Tests.{le-ltb}
use Rattle.words.specs.Words.{most_words}
use Rattle.words.specs.Outcome.{drawn}
use Rattle.words.specs.Refusals.{NoneHolds}
use Rattle.words.proofs.Exactly.{none_given}
use Rattle.bytes_le.proofs.Numbers.{Bytes}
use Rattle.kinds.specs.Kinds.{kind_number}
use Rattle.kinds.proofs.Requests.{kind_fits}
use Rattle.std.specs.Prelude.{None, Some, ⊤}
use Rattle.std.proofs.Common.{w8}
use Rattle.std.proofs.Common.{Fits as FitsWord}
use Rattle.entry.specs.declared.Entry.{Entry}
use Rattle.layout.specs.declared.Standing.{Standing}
use Rattle.entry.specs.Entry.{blank}
use Rattle.layout.specs.Book.{decode, most_bytes, book_too_long, is_none}
use Rattle.opening.specs.Calls.{is_damaged_for, booked_for}
use Rattle.layout.specs.Inner.{entries_from, Lie, walked}
use Rattle.entry.proofs.Entries.{Fits}
use Rattle.layout.proofs.Decoding.{zeros_decode}
use Rattle.layout.proofs.Positions.{lies_fits}
use Rattle.opening.proofs.Opening.{open_decodes, open_book, open_room, open_all}
use Rattle.layout.proofs.Walking.{walked_damaged, walked_sound}
use Rattle.writing.specs.Digits.{decimal}
use Rattle.writing.specs.Writing.{Writes}
use Rattle.writing.proofs.Writing.{written_next, length_decimal}
use Rattle.lines.specs.Lines.{line, refused_line}
use Rattle.lines.proofs.Lines.{word_next, last_words, number_length}
use Rattle.book_lines.specs.Listing.{header, entry_line, entry_lines, end_line, listed, listing_refusals, entries_in, listing_of, listing}

-- ---- an entry's line

-- its numbers, and a byte after each
pub line_length : (e : Entry) → length (entry_line e)
    ≡ length (decimal e.serial) + length (decimal (kind_number e.request)) + length (decimal e.place) + length (decimal e.used) + length (decimal e.count) + 5
unfolding entry_line line
line_length e = simp length-append (omega arith)

-- where its numbers fit their fields it has at most 60 bytes
line_room : (e : Entry) → Fits e → length (entry_line e) ≤ 60
line_room e f =
    omega (
      arith,
      line_length e,
      length_decimal e.serial 10 (omega arith) (omega (arith, f.serial_fits)),
      length_decimal (kind_number e.request) 5 (omega arith) (omega (arith, kind_fits e.request)),
      length_decimal e.place 10 (omega arith) (omega (arith, f.place_fits)),
      length_decimal e.used 10 (omega arith) (omega (arith, f.used_fits)),
      length_decimal e.count 20 (omega arith) (omega (arith, f.count_fits)),
    )

-- it is its numbers, each with the byte after it
pub entry_written : {l m1 m2 m3 m4 o : List ℕ} {x y1 y2 y3 y4 z k : ℕ} (e : Entry) → k ≡ kind_number e.request → Writes l x (decimal e.serial ++ (32 ∷ [])) m1 y1
    → Writes m1 y1 (decimal k ++ (32 ∷ [])) m2 y2 → Writes m2 y2 (decimal e.place ++ (32 ∷ [])) m3 y3 → Writes m3 y3 (decimal e.used ++ (32 ∷ [])) m4 y4
    → Writes m4 y4 (decimal e.count ++ (10 ∷ [])) o z → Writes l x (entry_line e) o z
unfolding entry_line
entry_written e ek w1 w2 w3 w4 w5 =
    word_next _ _ _ w1 (word_next _ _ _ (rw ek at w2) (word_next _ _ _ w3 (last_words _ _ (written_next _ _ _ _ _ _ _ _ w4 w5))))

-- how long a line is, for `grind`
pub ruleset entry_words = (line_length, number_length)

-- lines of at most 60 bytes each take at most 60 times their number
lines_room : (es : List Entry) (d : Entry) → ((i : ℕ) → i < length es → length (entry_line (get_or es i d)) ≤ 60) → length (entry_lines es) ≤ 60 * length es
unfolding entry_lines
lines_room [] d h = omega arith
lines_room (e ∷ es) d h = simp length-append (omega (arith, h 0 (omega arith), lines_room es d (λ i l. h (suc i) (omega arith))))

-- each has a line of at most 60 bytes
unfoldable pub Short : List Entry → Type 0
Short [] = ⊤
Short (e ∷ es) = (length (entry_line e) ≤ 60) × Short es

short_lines : (es : List Entry) (d : Entry) → ((i : ℕ) → i < length es → length (entry_line (get_or es i d)) ≤ 60) → Short es
unfolding Short
short_lines [] d h = tt
short_lines (e ∷ es) d h = (h 0 (omega arith), short_lines es d (λ i l. h (suc i) (omega arith)))

-- ---- a turn over the entries that are left

module _ (s : List Entry) (e : Entry) (es : List Entry) (is : s ≡ e ∷ es) where
  pub short_first : Short s → (length (entry_line e) ≤ 60) × Short es
  unfolding Short
  short_first h = rw is at h

  pub one_fewer : length s ≡ length es + 1
  one_fewer = ap length is ∙ omega arith

  -- with its line written, the lines of those after it are what is left
  pub lines_turn : {o m d : List ℕ} {x y z : ℕ} → Writes o x (entry_line e) m y → Writes m y (entry_lines es) d z → Writes o x (entry_lines s) d z
  unfolding entry_lines
  lines_turn v w = rw is (written_next _ _ _ _ _ _ _ _ v w)

-- ---- the entries of a sound book, where they lie

module _ (b : List ℕ) (fits : (i : ℕ) → FitsWord w8 (get_or b i 0)) (h : NoneHolds (listing_refusals b)) where
  by : Bytes b
  by i = (fits i).fits

  decodes : decode most_words b ≡ some (entries_in b)
  decodes = open_decodes most_words b h

  -- they lie one after another, and have short lines
  pub entries_all : (n : ℕ) → n ≡ length (entries_in b) → Lie n b 0 × (entries_from n b 0 ≡ entries_in b)
  entries_all n e = open_all most_words b by h n e

  pub entries_short : (n : ℕ) (s : List Entry) → n ≡ length (entries_in b) → s ≡ entries_from n b 0 → (s ≡ entries_in b) × Short s
  entries_short n s e es =
      let is : s ≡ entries_in b = es ∙ (entries_all n e).1 in
      (is, rw is (short_lines (entries_in b) blank (λ i l. line_room (get_or (entries_in b) i blank) (lies_fits most_words b (entries_in b) by decodes blank i l))))

  -- the room that all their lines take
  pub entries_room : length (entry_lines (entries_in b)) ≤ 60 * length (entries_in b)
  entries_room = lines_room (entries_in b) blank (λ i l. line_room (get_or (entries_in b) i blank) (lies_fits most_words b (entries_in b) by decodes blank i l))

  -- a book has at most 2,730 entries
  pub entries_few : length (entries_in b) ≤ 2730
  entries_few = omega (arith, open_book most_words b h, (open_room most_words b by h).2)

-- past the last, no line is left to write
pub lines_done : (s : List Entry) (l : List ℕ) (x : ℕ) → s ≡ [] → x ≤ length l → Writes l x (entry_lines s) l x
unfolding entry_lines
lines_done s l x e r = rw e (record { bytes = refl; place = sym (add-zero x); room = r })

-- ---- what the listing comes to

-- the header, the entries' lines and the end one after another
pub listed_written : {l m d o : List ℕ} {x y z : ℕ} (es : List Entry) (n : ℕ) → n ≡ length es → Writes l 0 header m x
    → Writes m x (entry_lines es) d y → Writes d y (end_line n) o z → Writes l 0 (listed es) o z
unfolding listed
listed_written es n e u v w = written_next _ _ _ _ _ _ _ _ u (written_next _ _ _ _ _ _ _ _ v (rw e at w))

module _ (b : List ℕ) where
  -- 11: too long
  pub listing_long : book_too_long b ≡ true → refused_line 11 ≡ listing b
  unfolding listing listing_of
  listing_long g = rw g

  -- neither: the entries are listed
  pub listing_listed : NoneHolds (listing_refusals b) → listed (entries_in b) ≡ listing b
  unfolding listing listing_of
  listing_listed h = rw (none_given (listing_refusals b) (drawn (entries_in b) 0) h)

  module _ (g : book_too_long b ≡ false) where
    -- 12: the walk found damage
    pub listing_damaged : None ≡ walked most_words b → refused_line 12 ≡ listing b
    unfolding listing listing_of is_damaged_for
    listing_damaged e = rw (g, walked_damaged most_words b e)

    -- the walk found a sound book, and the number of its entries
    pub listing_sound : (st : Standing) → Some st ≡ walked most_words b → NoneHolds (listing_refusals b) × (st.entries ≡ length (entries_in b))
    unfolding is_damaged_for booked_for
    listing_sound st e =
        let t = walked_sound most_words b st e in
        ((refl, (g, (ap is_none t.decoded, tt))), rw t.decoded (ap (λ (x : Standing). x.entries) t.stands))

-- how the listing comes out, for `grind`
pub ruleset listings = (listing_long, listing_damaged, listing_sound, listing_listed, entries_few)

-- ---- an empty book

-- zero bytes, at most 65,536, are listed as the header and `end 0`
pub empty_listing : (n : ℕ) → n ≤ most_bytes → listing (replicate n 0) ≡ header ++ end_line 0
unfolding listed entry_lines is_damaged_for booked_for book_too_long
empty_listing n h =
    let none : decode most_words (replicate n 0) ≡ some [] = zeros_decode most_words n in
    let short : book_too_long (replicate n 0) ≡ false = le-ltb most_bytes (length (replicate {A = ℕ} n 0)) (omega (arith, length-replicate {A = ℕ} n 0)) in
    sym (listing_listed (replicate n 0) (refl, (short, (ap is_none none, tt))))
    ∙ ap (λ (o : Option (List Entry)). listed (Option.get_or o [])) none
