-- RULES, 'The book': every number little-endian. Once for every width. Assumes nothing.
use Rattle.std.specs.Prelude.{ℕ, zero, suc, ◌+◌, ◌*◌, ◌/◌, ◌%◌, List, [], ◌∷◌, get_or, drop}

-- a number as k bytes, the lowest first
unfoldable pub bytes_of : ℕ → ℕ → List ℕ
bytes_of zero x = []
bytes_of (suc k) x = x % 256 ∷ bytes_of k (x / 256)

-- the number that the first k bytes spell
unfoldable pub spelled : ℕ → List ℕ → ℕ
spelled zero l = 0
spelled (suc k) l = get_or l 0 0 + 256 * spelled k (drop 1 l)

-- the first k numbers of 8 bytes each: an entry's parameters, or the words of a tape
unfoldable pub words_from : ℕ → List ℕ → List ℕ
words_from zero l = []
words_from (suc k) l = spelled 8 l ∷ words_from k (drop 8 l)
