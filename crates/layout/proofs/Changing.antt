-- One entry more, and fewer: what a delivery and a strike do to the bytes of a book. Assumes nothing.
use mathlib.Core.Path.{◌≡◌, sym, ap, ◌∙◌}
use mathlib.Core.List.{List, [], ◌∷◌, ◌++◌, append_assoc, append-nil}
use Prim.Native.Nat.{ℕ, zero, suc, ◌+◌, ◌-◌, ◌≤◌}
use native.Mathlib.Omega.{arith}
use lib.ListN.{length, take, drop, replicate, length-append, length-replicate, replicate-append-replicate}
use lib.Seq.{drop_at, take_at, sets, sets-eq, drop-append-add}
use Rattle.bytes_le.specs.Zeros.{wiped}
use Rattle.kinds.specs.Kinds.{length_of}
use Rattle.entry.specs.declared.Entry.{Entry}
use Rattle.entry.specs.Entry.{entry_bytes}
use Rattle.layout.specs.Book.{entries_bytes, length_all, used_all, encode}
use Rattle.entry.proofs.Entries.{Fits, length_entry}
use Rattle.layout.proofs.Decoding.{Chain, length_entries, zeros_equal}
use Rattle.layout.proofs.Positions.{bytes_append, length_all_append, length_one}

-- one entry more
pub chain_snoc : (es : List Entry) (s p : ℕ) (e : Entry) → Chain s p es → Fits e → e.serial ≡ s + length es → e.place ≡ p + used_all es
    → Chain s p (es ++ (e ∷ []))
unfolding used_all
chain_snoc [] s p e c ok a b = ((ok, (omega arith, omega arith)), tt)
chain_snoc (x ∷ xs) s p e c ok a b = (c.0, chain_snoc xs (s + 1) (p + x.used) e c.1 ok (omega arith) (omega arith))

-- fewer zeros
drop_zeros : (k n : ℕ) → drop {A = ℕ} k (replicate n 0) ≡ replicate (n - k) 0
drop_zeros zero n = zeros_equal n (n - 0) (omega arith)
drop_zeros (suc k) zero = zeros_equal 0 (0 - suc k) (omega arith)
drop_zeros (suc k) (suc n) = drop_zeros k n ∙ zeros_equal (n - k) (suc n - suc k) (omega arith)

-- a delivery's bytes: an entry stored at the end is one entry more
pub append_encode : (n : ℕ) (es : List Entry) (e : Entry) → length_all es + length_of e.request ≤ n
    → sets (encode n es) (length_all es) (entry_bytes e) ≡ encode n (es ++ (e ∷ []))
unfolding encode
append_encode n es e h =
    let S : ℕ = length_all es in
    let zs : List ℕ = replicate (n - S) 0 in
    let le-all : length (entries_bytes es) ≡ S = length_entries es in
    let le-e : length (entry_bytes e) ≡ length_of e.request = length_entry e in
    let fits : S + length (entry_bytes e) ≤ length (entries_bytes es ++ zs) = simp (length-append, length-replicate) (omega arith) in
    let tk : take S (entries_bytes es ++ zs) ≡ entries_bytes es = take_at (entries_bytes es) zs S le-all in
    let dr : drop (S + length (entry_bytes e)) (entries_bytes es ++ zs) ≡ replicate (n - length_all (es ++ (e ∷ []))) 0 =
    ap (λ (k : ℕ). drop (k + length (entry_bytes e)) (entries_bytes es ++ zs)) (sym le-all)
    ∙ drop-append-add (entries_bytes es) zs (length (entry_bytes e))
    ∙ drop_zeros (length (entry_bytes e)) (n - S)
    ∙ zeros_equal (n - S - length (entry_bytes e)) (n - length_all (es ++ (e ∷ []))) (omega (arith, length_all_append es (e ∷ []), length_one e)) in
    let one : entries_bytes (es ++ (e ∷ [])) ≡ entries_bytes es ++ entry_bytes e =
    bytes_append es (e ∷ []) ∙ unfold entries_bytes in ap (λ (l : List ℕ). entries_bytes es ++ l) (append-nil (entry_bytes e)) in
    sets-eq (entry_bytes e) (entries_bytes es ++ zs) S fits ∙ rw (tk, dr, one)

-- zeros after zeros
more_zeros : (l : List ℕ) (m k n : ℕ) → m + k ≡ n → (l ++ replicate m 0) ++ replicate k 0 ≡ l ++ replicate n 0
more_zeros l m k n e =
    append_assoc l (replicate m 0) (replicate k 0)
    ∙ ap (λ (z : List ℕ). l ++ z) (replicate-append-replicate m k 0 ∙ zeros_equal (m + k) n e)

-- a strike's bytes: with the last entries wiped, those before them are left
pub wiped_encode : (n : ℕ) (xs ys : List Entry) → length_all (xs ++ ys) ≤ n
    → wiped (length_all xs) (length_all (xs ++ ys)) (encode n (xs ++ ys)) ≡ encode n xs
unfolding encode wiped
wiped_encode n xs ys h =
    let S : ℕ = length_all (xs ++ ys) in
    let zs : List ℕ = replicate (n - S) 0 in
    let gap : ℕ = S - length_all xs in
    let tk : take (length_all xs) (entries_bytes (xs ++ ys) ++ zs) ≡ entries_bytes xs =
    ap (λ (l : List ℕ). take (length_all xs) (l ++ zs)) (bytes_append xs ys)
    ∙ ap (take (length_all xs)) (append_assoc (entries_bytes xs) (entries_bytes ys) zs)
    ∙ take_at (entries_bytes xs) (entries_bytes ys ++ zs) (length_all xs) (length_entries xs) in
    let dr : drop S (entries_bytes (xs ++ ys) ++ zs) ≡ zs = drop_at (entries_bytes (xs ++ ys)) zs S (length_entries (xs ++ ys)) in
    let sum : gap + (n - S) ≡ n - length_all xs = omega (arith, length_all_append xs ys) in
    rw (tk, dr) (more_zeros (entries_bytes xs) gap (n - S) (n - length_all xs) sum)
