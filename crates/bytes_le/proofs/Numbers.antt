-- Laws of little-endian numbers, one for every width: what was written is read, and what was read is written. Assumes nothing.
use mathlib.Core.Path.{◌≡◌, refl, sym, ap, ap₂, ◌∙◌}
use mathlib.Core.List.{List, [], ◌∷◌, ◌++◌, append-nil}
use Prim.Native.Nat.{ℕ, zero, suc, ◌+◌, ◌*◌, ◌-◌, ◌/◌, ◌%◌, ◌^◌, ◌<◌, ◌≤◌}
use native.Mathlib.Nat.{pow-succ', mod-add-div, le_of_suc-le-suc, not-suc-le-zero, add-zero, lt_of_lt_of_le, pow-le-pow_right}
use native.Mathlib.Numerals.{add-one}
use native.Mathlib.Omega.{arith}
use lib.ListN.{get_or, drop, take, length, replicate, set}
use lib.Seq.{get_or-drop, get_or-take, get_or-append_seam, take-append_seam, drop-drop, sets, take-suc-set, take-length, append_snoc}
use Rattle.std.proofs.lemmas.List.{length_push}
use Rattle.std.proofs.lemmas.List.Edits.{length-between}
use Rattle.bytes_le.specs.LittleEndian.{bytes_of, spelled, words_from}

-- each value is a byte's
abbrev pub Bytes : List ℕ → Type 0
Bytes l = (i : ℕ) → get_or l i 0 < 256

pub bytes_drop : (l : List ℕ) (k : ℕ) → Bytes l → Bytes (drop k l)
bytes_drop l k h i = rw get_or-drop (h (k + i))

pub length_bytes : (k x : ℕ) → length (bytes_of k x) ≡ k
unfolding bytes_of
length_bytes zero x = refl
length_bytes (suc k) x = ap suc (length_bytes k (x / 256))

-- what was written is read
pub spelled_bytes : (k x : ℕ) (l : List ℕ) → x < 256 ^ k → spelled k (bytes_of k x ++ l) ≡ x
unfolding bytes_of spelled
spelled_bytes zero x l h = omega (arith, h)
spelled_bytes (suc k) x l h =
    let h' : x / 256 < 256 ^ k = omega (arith, pow-succ' 256 k) in
    ap (λ (n : ℕ). x % 256 + 256 * n) (spelled_bytes k (x / 256) l h') ∙ mod-add-div x 256

pub spelled_lt : (k : ℕ) (l : List ℕ) → Bytes l → spelled k l < 256 ^ k
unfolding spelled
spelled_lt zero l h = omega arith
spelled_lt (suc k) l h = omega (arith, pow-succ' 256 k, h 0, spelled_lt k (drop 1 l) (bytes_drop l 1 h))

-- what was read is written
pub bytes_spelled : (k : ℕ) (l : List ℕ) → Bytes l → k ≤ length l → bytes_of k (spelled k l) ≡ take k l
unfolding bytes_of spelled
bytes_spelled zero l h n = refl
bytes_spelled (suc k) [] h n = absurd (not-suc-le-zero n)
bytes_spelled (suc k) (x ∷ xs) h n =
    let m : (x + 256 * spelled k xs) % 256 ≡ x = omega (arith, h 0) in
    let d : (x + 256 * spelled k xs) / 256 ≡ spelled k xs = omega (arith, h 0) in
    ap₂ (λ (a : ℕ) (b : List ℕ). a ∷ b) m (ap (bytes_of k) d ∙ bytes_spelled k xs (λ i. h (suc i)) (le_of_suc-le-suc n))

-- zeros spell 0
pub spelled_zeros : (k n : ℕ) → spelled k (replicate n 0) ≡ 0
unfolding spelled
spelled_zeros zero n = refl
spelled_zeros (suc k) zero = omega (arith, spelled_zeros k 0)
spelled_zeros (suc k) (suc n) = omega (arith, spelled_zeros k n)

-- ---- a turn of the loop that reads

module _ (l : List ℕ) (k at : ℕ) where
  next_byte : (m i : ℕ) → spelled (suc m) (drop i l) ≡ get_or l i 0 + 256 * spelled m (drop (suc i) l)
  unfolding spelled
  next_byte m i =
      ap₂ (λ (x : ℕ) (d : List ℕ). x + 256 * spelled m d) (get_or-drop i l 0 0 ∙ ap (λ (j : ℕ). get_or l j 0) (add-zero i))
      (drop-drop 1 i l ∙ ap (λ (j : ℕ). drop j l) (add-one i))

  pub read_none : (m : List ℕ) → 0 ≡ spelled (k - k) m
  unfolding spelled
  read_none m = let e : k - k ≡ 0 = omega arith in rw e

  pub read_turn : (i r : ℕ) → 0 < i → i ≤ k → r ≡ spelled (k - i) (drop (at + i) l)
      → r * 256 + get_or l (at + (i - 1)) 0 ≡ spelled (k - (i - 1)) (drop (at + (i - 1)) l)
  read_turn i r pos h e =
      let n : k - (i - 1) ≡ suc (k - i) = omega arith in
      let a : suc (at + (i - 1)) ≡ at + i = omega arith in
      rw (n, next_byte (k - i) (at + (i - 1)), a, ← e) (omega arith)

  pub read_room : (i : ℕ) → Bytes l → 0 < i → i ≤ k → k ≤ 8 → spelled (k - i) (drop (at + i) l) < 256 ^ 7
  read_room i by pos h h8 =
      lt_of_lt_of_le (spelled_lt (k - i) (drop (at + i) l) (bytes_drop l (at + i) by))
      (pow-le-pow_right {n = 256} (omega arith) {i = k - i} {j = 7} (omega arith))

-- ---- the bytes that are still to come, from the highest down

take_less : (n : ℕ) (l : List ℕ) → take n (take (suc n) l) ≡ take n l
take_less zero l = refl
take_less (suc n) [] = refl
take_less (suc n) (x ∷ l) = ap (λ (m : List ℕ). x ∷ m) (take_less n l)

-- at first, all of them
pub all_to_come : (r l : List ℕ) (at k : ℕ) → at + k ≤ length l → r ≡ take (at + k - at) (drop at l)
    → (length r ≡ k) × (r ≡ take (length r) (drop at l)) × (0 ≡ spelled (k - length r) (drop (at + length r) l))
all_to_come r l at k h e =
    let many : length r ≡ at + k - at = ap length e ∙ length-between l at (at + k) h in
    let n : length r ≡ k = omega arith in
    (n, e ∙ ap (λ (m : ℕ). take m (drop at l)) (sym many), rw n (read_none l k at (drop (at + k) l)))

-- and once the last of them is taken
pub last_taken : (r l s : List ℕ) (at b : ℕ) → r ≡ take (length r) (drop at l) → r ≡ s ++ b ∷ []
    → (length r ≡ length s + 1) × (b ≡ get_or l (at + length s) 0) × (s ≡ take (length s) (drop at l))
last_taken r l s at b e f =
    let n : length r ≡ suc (length s) = ap length f ∙ length_push s b ∙ add-one (length s) in
    let same : s ++ b ∷ [] ≡ take (suc (length s)) (drop at l) = sym f ∙ e ∙ ap (λ (m : ℕ). take m (drop at l)) n in
    let last : b ≡ get_or (drop at l) (length s) 0 =
    sym (get_or-append_seam s b [] 0) ∙ ap (λ (m : List ℕ). get_or m (length s) 0) same
    ∙ get_or-take (suc (length s)) (drop at l) (length s) 0 (omega arith) in
    let left : s ≡ take (length s) (drop at l) =
    sym (take-append_seam s (b ∷ [])) ∙ ap (take (length s)) same ∙ take_less (length s) (drop at l) in
    (n ∙ sym (add-one (length s)), last ∙ get_or-drop at l (length s) 0, left)

-- ---- a turn of the loop that writes

pub write_turn : (l : List ℕ) (k i v : ℕ) → i < k → length l ≡ k
    → take (i + 1) (set l i (v % 256)) ++ bytes_of (k - (i + 1)) (v / 256) ≡ take i l ++ bytes_of (k - i) v
unfolding bytes_of
write_turn l k i v h e =
    let n : k - i ≡ suc (k - (i + 1)) = omega arith in
    rw (n, add-one i, take-suc-set l i (v % 256) (omega arith)) (append_snoc (take i l) (v % 256) (bytes_of (k - suc i) (v / 256)))

pub write_done : (l d : List ℕ) (k i v : ℕ) → length l ≡ k → i ≡ k → take i l ++ bytes_of (k - i) v ≡ d → l ≡ d
unfolding bytes_of
write_done l d k i v e h w =
    let n : k - i ≡ 0 = omega arith in
    let whole : i ≡ length l = omega arith in
    rw (n, append-nil, whole, take-length l) at w

-- ---- words one after another

pub length_words : (k : ℕ) (l : List ℕ) → length (words_from k l) ≡ k
unfolding words_from
length_words zero l = refl
length_words (suc k) l = ap suc (length_words k (drop 8 l))

-- the word i stands 8 bytes after the one before
pub word_at : (k : ℕ) (l : List ℕ) (i : ℕ) → i < k → get_or (words_from k l) i 0 ≡ spelled 8 (drop (8 * i) l)
unfolding words_from
word_at zero l i h = absurd (not-suc-le-zero h)
word_at (suc k) l zero h = refl
word_at (suc k) l (suc i) h =
    let e : 8 + 8 * i ≡ 8 * suc i = omega arith in
    word_at k (drop 8 l) i (le_of_suc-le-suc h) ∙ ap (spelled 8) (drop-drop (8 * i) 8 l ∙ ap (λ (m : ℕ). drop m l) e)

-- ---- a turn of the loop that reads words

pub words_turn : (t l : List ℕ) (k at i w : ℕ) → i < k → w ≡ spelled 8 (drop (8 * i) l)
    → sets (set t (at + i) w) (at + (i + 1)) (words_from (k - (i + 1)) (drop (8 * (i + 1)) l)) ≡ sets t (at + i) (words_from (k - i) (drop (8 * i) l))
unfolding words_from
words_turn t l k at i w h e =
    let n : k - i ≡ suc (k - (i + 1)) = omega arith in
    let a : at + (i + 1) ≡ suc (at + i) = omega arith in
    let d : 8 * (i + 1) ≡ 8 * i + 8 = omega arith in
    rw (n, a, d, e, drop-drop 8 (8 * i) l)

pub words_done : (t d l : List ℕ) (k at i : ℕ) → i ≤ k → k ≤ i → sets t (at + i) (words_from (k - i) (drop (8 * i) l)) ≡ d → t ≡ d
unfolding words_from
words_done t d l k at i h h' e = let n : k - i ≡ 0 = omega arith in rw n at e
