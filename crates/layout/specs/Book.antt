-- RULES, 'The book': a book's entries, written and read. Assumes nothing.
use Rattle.std.specs.Prelude.{ℕ, zero, suc, ◌+◌, ◌-◌, Bool, true, false, cond, ◌&&◌, ◌||◌, List, [], ◌∷◌, ◌++◌, eqb, leb, ltb, length, drop, replicate}
use Rattle.std.proofs.Math.Option.{Option, none, some, map}
use Rattle.bytes_le.specs.Zeros.{all_zero}
use Rattle.layout.specs.declared.Head.{Head}
use Rattle.layout.specs.declared.Head.TheVariants.{End, Damage, Next}
use Rattle.kinds.specs.Kinds.{kind_of, length_in, length_of}
use Rattle.entry.specs.declared.Entry.{Entry}
use Rattle.entry.specs.Entry.{entry_bytes, length_at, kind_at, serial_at, place_at, used_at, entry_at}

-- a book has at most this many bytes
abbrev pub most_bytes : ℕ
most_bytes = 65536

-- refusal 11's condition
unfoldable pub book_too_long : List ℕ → Bool
book_too_long b = ltb most_bytes (length b)

-- the bytes of entries, one after another
unfoldable pub entries_bytes : List Entry → List ℕ
entries_bytes [] = []
entries_bytes (e ∷ es) = entry_bytes e ++ entries_bytes es

-- where they end
unfoldable pub length_all : List Entry → ℕ
length_all [] = 0
length_all (e ∷ es) = length_of e.request + length_all es

-- the tape's place after them: the sum of used
unfoldable pub used_all : List Entry → ℕ
used_all [] = 0
used_all (e ∷ es) = e.used + used_all es

-- a book of n bytes: the entries, and zeros
unfoldable pub encode : ℕ → List Entry → List ℕ
encode n es = entries_bytes es ++ replicate (n - length_all es) 0

-- the book ends at the first length of 0, or where fewer than 2 bytes remain
abbrev pub is_end : List ℕ → Bool
is_end l = ltb (length l) 2 || eqb (length_at l 0) 0

-- the length fits its kind and the buffer
abbrev pub is_fitting : List ℕ → Bool
is_fitting l = eqb (length_at l 0) (length_in (kind_of (kind_at l 0))) && leb (length_at l 0) (length l)

-- what stands at the front of the bytes that are left, where the serial s and the place p are due
unfoldable pub head : ℕ → ℕ → List ℕ → Head
head s p l = cond (is_end l) End (cond (is_fitting l && eqb (serial_at l 0) s && eqb (place_at l 0) p) Next Damage)

abbrev pub on_head : {X : Type 0} → Head → X → X → X → X
on_head End x y z = x
on_head Damage x y z = y
on_head Next x y z = z

-- past the last entry: the words used are on a tape of t words, and every byte is 0
abbrev pub is_closed : ℕ → ℕ → List ℕ → Bool
is_closed t p l = leb p t && all_zero l

-- an entry before others, where each is one
abbrev pub joined : Option Entry → Option (List Entry) → Option (List Entry)
joined none o = none
joined (some e) o = map (λ (es : List Entry). e ∷ es) o

-- the entries in the bytes l, from the serial s and the place p on; f is above their number
unfoldable pub decode_from : ℕ → ℕ → ℕ → ℕ → List ℕ → Option (List Entry)
decode_from zero t s p l = none
decode_from (suc f) t s p l =
    on_head (head s p l)
    (cond (is_closed t p l) (some []) none)
    none
    (joined (entry_at l 0) (decode_from f t (s + 1) (p + used_at l 0) (drop (length_at l 0) l)))

-- a book's entries for a tape of t words, or none where it is not sound (`decodes_sound`, `sound_decodes`)
unfoldable pub decode : ℕ → List ℕ → Option (List Entry)
decode t b = decode_from (suc (length b)) t 1 0 b

-- that there is none
abbrev pub is_none : {A : Type 0} → Option A → Bool
is_none none = true
is_none (some x) = false
