-- RULES, 'The book': an entry and its bytes. Assumes nothing.
use Rattle.std.specs.Prelude.{ℕ, ◌+◌, List, [], ◌∷◌, ◌++◌, drop}
use Rattle.std.proofs.Math.Option.{Option, map}
use Rattle.bytes_le.specs.LittleEndian.{bytes_of, spelled, words_from}
use Rattle.kinds.specs.declared.Request.{Request}
use Rattle.kinds.specs.declared.Request.TheVariants.{StandardGeometric}
use Rattle.kinds.specs.Kinds.{fixed_length, kind_of, parameters_in, kind_number, parameters_of, length_of, request_of}
use Rattle.entry.specs.declared.Entry.{Entry}

-- a booking: what was asked for, its serial, the tape's place before the draw (`at`), the words used and the count
abbrev pub booking : Request → ℕ → ℕ → ℕ → ℕ → Entry
booking r s p u c = record { request = r; serial = s; place = p; used = u; count = c }

-- no booking: it stands where a serial has none, and no call answers with it
abbrev pub blank : Entry
blank = booking StandardGeometric 0 0 0 0

-- parameters, 8 bytes each
unfoldable pub parameter_bytes : List ℕ → List ℕ
parameter_bytes [] = []
parameter_bytes (x ∷ xs) = bytes_of 8 x ++ parameter_bytes xs

-- length u16, kind u16, serial u32, at u32, used u32, count u64
unfoldable pub fixed_bytes : Entry → List ℕ
fixed_bytes e =
    bytes_of 2 (length_of e.request)
    ++ (bytes_of 2 (kind_number e.request)
    ++ (bytes_of 4 e.serial
    ++ (bytes_of 4 e.place
    ++ (bytes_of 4 e.used
    ++ bytes_of 8 e.count))))

-- then parameters
unfoldable pub entry_bytes : Entry → List ℕ
entry_bytes e = fixed_bytes e ++ parameter_bytes (parameters_of e.request)

-- the fields of the entry that begins at i
abbrev pub length_at : List ℕ → ℕ → ℕ
length_at b i = spelled 2 (drop i b)

abbrev pub kind_at : List ℕ → ℕ → ℕ
kind_at b i = spelled 2 (drop (i + 2) b)

abbrev pub serial_at : List ℕ → ℕ → ℕ
serial_at b i = spelled 4 (drop (i + 4) b)

abbrev pub place_at : List ℕ → ℕ → ℕ
place_at b i = spelled 4 (drop (i + 8) b)

abbrev pub used_at : List ℕ → ℕ → ℕ
used_at b i = spelled 4 (drop (i + 12) b)

abbrev pub count_at : List ℕ → ℕ → ℕ
count_at b i = spelled 8 (drop (i + 16) b)

-- its parameters, as many as its kind has, after f bytes of fixed fields
abbrev pub parameters_at : ℕ → List ℕ → ℕ → List ℕ
parameters_at f b i = words_from (parameters_in (kind_of (kind_at b i))) (drop (i + f) b)

-- its request; none where its kind is not of the table
abbrev pub request_at : ℕ → List ℕ → ℕ → Option Request
request_at f b i = request_of (kind_at b i) (parameters_at f b i)

-- the entry of the request r that has its other fields there
abbrev pub entry_of : Request → List ℕ → ℕ → Entry
entry_of r b i = booking r (serial_at b i) (place_at b i) (used_at b i) (count_at b i)

-- the entry that begins at i; none where its kind is not of the table
unfoldable pub entry_at : List ℕ → ℕ → Option Entry
entry_at b i = map (λ (r : Request). entry_of r b i) (request_at fixed_length b i)
