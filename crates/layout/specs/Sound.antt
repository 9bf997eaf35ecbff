-- RULES, 'The book', Sound: which bytes are a sound book, in its five clauses. Assumes nothing.
use Rattle.std.specs.Prelude.{ℕ, zero, suc, ◌+◌, ◌≤◌, ◌<◌, List, ◌⊎◌, ◌≡◌, length, get_or}
use Rattle.kinds.specs.Kinds.{kind_of, length_in}
use Rattle.entry.specs.Entry.{length_at, kind_at, serial_at, place_at, used_at}

-- entries stand one after another: where the entry i begins, the first being 0
unfoldable pub offset : List ℕ → ℕ → ℕ
offset b zero = 0
offset b (suc i) = offset b i + length_at b (offset b i)

-- the sum of used before the entry i
unfoldable pub used_before : List ℕ → ℕ → ℕ
used_before b zero = 0
used_before b (suc i) = used_before b i + used_at b (offset b i)

-- the book ends at the first length of 0, or where fewer than 2 bytes remain
abbrev pub EndsAt : List ℕ → ℕ → Type 0
EndsAt b i = (length b < i + 2) ⊎ (length_at b i ≡ 0)

-- a sound book for a tape of t words
pub record Sound (t : ℕ) (b : List ℕ) : Type 0 where
  -- the number of its entries: the book ends after so many, and not before
  pub number : ℕ
  pub begins : (i : ℕ) → i < number → EndsAt b (offset b i) → ⊥
  pub ends : EndsAt b (offset b number)
  -- each length fits its kind and the buffer
  pub fits_kind : (i : ℕ) → i < number → length_at b (offset b i) ≡ length_in (kind_of (kind_at b (offset b i)))
  pub fits_buffer : (i : ℕ) → i < number → offset b i + length_at b (offset b i) ≤ length b
  -- serials run 1, 2, 3..
  pub serials : (i : ℕ) → i < number → serial_at b (offset b i) ≡ suc i
  -- each at is the sum of used before it
  pub places : (i : ℕ) → i < number → place_at b (offset b i) ≡ used_before b i
  -- the sum of all used is at most the tape's length
  pub words : used_before b number ≤ t
  -- every byte after the end is 0
  pub zeros : (i : ℕ) → offset b number ≤ i → i < length b → get_or b i 0 ≡ 0
