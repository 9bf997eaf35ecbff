-- Laws of an entry's bytes as runs of stores, one field after another. Assumes nothing.
use mathlib.Core.Path.{◌≡◌, refl, sym, ap, ap₂, ◌∙◌}
use mathlib.Core.Bool.{cond}
use mathlib.Core.List.{List, [], ◌∷◌, ◌++◌, append-nil}
use Prim.Native.Nat.{ℕ, zero, suc, ◌+◌, ◌*◌, ◌≤◌}
use native.Mathlib.Nat.{add-zero}
use native.Mathlib.Omega.{arith}
use lib.Dec.{ltb}
use lib.ListN.{length, take}
use lib.Seq.{sets}
use Rattle.bytes_le.specs.LittleEndian.{bytes_of}
use Rattle.bytes_le.proofs.Numbers.{length_bytes}
use Rattle.bytes_le.proofs.Runs.{sets_append}
use Rattle.entry.specs.declared.Entry.{Entry}
use Rattle.kinds.specs.declared.Parts.{Parts}
use Rattle.kinds.specs.declared.Request.{Request}
use Rattle.kinds.specs.Kinds.{fixed_length, kind_of, parameters_in, kind_number, parts_of, parameters_of, length_of}
use Rattle.kinds.proofs.Table.{parameters_few}
use Rattle.entry.specs.Entry.{parameter_bytes, fixed_bytes, entry_bytes}
use Rattle.entry.proofs.Entries.{length_fixed}

-- ---- runs

-- where the run xs was stored, a run right after it makes one with it
pub run_next : (l m : List ℕ) (i j : ℕ) (xs ys : List ℕ) → m ≡ sets l i xs → i + length xs ≡ j → sets m j ys ≡ sets l i (xs ++ ys)
run_next l m i j xs ys e q = ap₂ (λ (d : List ℕ) (n : ℕ). sets d n ys) e (sym q) ∙ sym (sets_append l i xs ys)

-- the same for a number of k bytes
pub field_next : (l m : List ℕ) (i j k x : ℕ) (ys : List ℕ) → m ≡ sets l i (bytes_of k x) → i + k ≡ j → sets m j ys ≡ sets l i (bytes_of k x ++ ys)
field_next l m i j k x ys e q = run_next l m i j (bytes_of k x) ys e (ap (λ (n : ℕ). i + n) (length_bytes k x) ∙ q)

-- ---- the bytes that every entry has

-- six numbers stored one after another are them
pub fixed_run : (b b1 b2 b3 b4 b5 b6 : List ℕ) (at z k : ℕ) (e : Entry) → z ≡ length_of e.request → k ≡ kind_number e.request
    → b1 ≡ sets b at (bytes_of 2 z) → b2 ≡ sets b1 (at + 2) (bytes_of 2 k) → b3 ≡ sets b2 (at + 4) (bytes_of 4 e.serial) → b4 ≡ sets b3 (at + 8) (bytes_of 4 e.place)
    → b5 ≡ sets b4 (at + 12) (bytes_of 4 e.used) → b6 ≡ sets b5 (at + 16) (bytes_of 8 e.count) → b6 ≡ sets b at (fixed_bytes e)
unfolding fixed_bytes
fixed_run b b1 b2 b3 b4 b5 b6 at z k e ez ek e1 e2 e3 e4 e5 e6 =
    e6
    ∙ field_next b4 b5 (at + 12) (at + 16) 4 e.used _ e5 (omega arith)
    ∙ field_next b3 b4 (at + 8) (at + 12) 4 e.place _ e4 (omega arith)
    ∙ field_next b2 b3 (at + 4) (at + 8) 4 e.serial _ e3 (omega arith)
    ∙ field_next b1 b2 (at + 2) (at + 4) 2 k _ e2 (omega arith)
    ∙ field_next b b1 at (at + 2) 2 z _ e1 refl
    ∙ ap₂ (λ (m n : ℕ). sets b at (bytes_of 2 m ++ (bytes_of 2 n ++ (bytes_of 4 e.serial ++ (bytes_of 4 e.place ++ (bytes_of 4 e.used ++ bytes_of 8 e.count)))))) ez ek

-- ---- parameters

-- of three numbers the first n, one after another
module _ (b b1 b2 b3 : List ℕ) (at x y z : ℕ) where
  one_number : sets b (at + 0) (bytes_of 8 x) ≡ sets b at (parameter_bytes (x ∷ []))
  unfolding parameter_bytes
  one_number = ap₂ (λ (i : ℕ) (l : List ℕ). sets b i l) (add-zero at) (sym (append-nil (bytes_of 8 x)))

  two_numbers : b1 ≡ sets b (at + 0) (bytes_of 8 x) → sets b1 (at + 8) (bytes_of 8 y) ≡ sets b at (parameter_bytes (x ∷ y ∷ []))
  unfolding parameter_bytes
  two_numbers e1 =
      field_next b b1 (at + 0) (at + 8) 8 x (bytes_of 8 y) e1 (omega arith)
      ∙ ap₂ (λ (i : ℕ) (l : List ℕ). sets b i (bytes_of 8 x ++ l)) (add-zero at) (sym (append-nil (bytes_of 8 y)))

  three_numbers : b1 ≡ sets b (at + 0) (bytes_of 8 x) → b2 ≡ sets b1 (at + 8) (bytes_of 8 y) → sets b2 (at + 16) (bytes_of 8 z) ≡ sets b at (parameter_bytes (x ∷ y ∷ z ∷ []))
  unfolding parameter_bytes
  three_numbers e1 e2 =
      field_next b1 b2 (at + 8) (at + 16) 8 y (bytes_of 8 z) e2 (omega arith)
      ∙ field_next b b1 (at + 0) (at + 8) 8 x (bytes_of 8 y ++ bytes_of 8 z) e1 (omega arith)
      ∙ ap₂ (λ (i : ℕ) (l : List ℕ). sets b i (bytes_of 8 x ++ (bytes_of 8 y ++ l))) (add-zero at) (sym (append-nil (bytes_of 8 z)))

  pub three_run : (n : ℕ) → n ≤ 3 → b1 ≡ cond (ltb 0 n) (sets b (at + 8 * 0) (bytes_of 8 x)) b → b2 ≡ cond (ltb 1 n) (sets b1 (at + 8 * 1) (bytes_of 8 y)) b1
      → b3 ≡ cond (ltb 2 n) (sets b2 (at + 8 * 2) (bytes_of 8 z)) b2 → b3 ≡ sets b at (parameter_bytes (take n (x ∷ y ∷ z ∷ [])))
  unfolding parameter_bytes
  three_run zero h e1 e2 e3 = e3 ∙ e2 ∙ e1
  three_run (suc zero) h e1 e2 e3 = e3 ∙ e2 ∙ e1 ∙ one_number
  three_run (suc (suc zero)) h e1 e2 e3 = e3 ∙ e2 ∙ two_numbers e1
  three_run (suc (suc (suc zero))) h e1 e2 e3 = e3 ∙ three_numbers e1 e2
  three_run (suc (suc (suc (suc n)))) h e1 e2 e3 = absurd (omega arith)

-- of a request's parts the first, as many as its kind has parameters
pub parameters_run : (b b1 b2 b3 : List ℕ) (at n : ℕ) (p : Parts) (r : Request) → p ≡ parts_of r → n ≡ parameters_in (kind_of p.kind)
    → b1 ≡ cond (ltb 0 n) (sets b (at + 8 * 0) (bytes_of 8 p.first)) b → b2 ≡ cond (ltb 1 n) (sets b1 (at + 8 * 1) (bytes_of 8 p.second)) b1
    → b3 ≡ cond (ltb 2 n) (sets b2 (at + 8 * 2) (bytes_of 8 p.third)) b2 → b3 ≡ sets b at (parameter_bytes (parameters_of r))
unfolding parameters_of
parameters_run b b1 b2 b3 at n p r told asked e1 e2 e3 =
    three_run b b1 b2 b3 at p.first p.second p.third n (omega (arith, asked, parameters_few p.kind)) e1 e2 e3
    ∙ rw (asked, told)

-- ---- an entry

-- the fixed fields, and the parameters after them
pub entry_run : (b b1 b2 : List ℕ) (at : ℕ) (e : Entry) → b1 ≡ sets b at (fixed_bytes e)
    → b2 ≡ sets b1 (at + fixed_length) (parameter_bytes (parameters_of e.request)) → b2 ≡ sets b at (entry_bytes e)
unfolding entry_bytes
entry_run b b1 b2 at e e1 e2 =
    e2 ∙ run_next b b1 at (at + fixed_length) (fixed_bytes e) _ e1 (ap (λ (n : ℕ). at + n) (length_fixed e))
