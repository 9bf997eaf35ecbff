-- Laws of the table of kinds: what one computed test over it says of every kind. Assumes nothing.
use mathlib.Core.Path.{◌≡◌, refl, sym, ap, ◌∙◌, subst}
use mathlib.Core.Bool.{Bool, true, false, cond, ◌&&◌, and-eq-true_iff}
use mathlib.Core.List.{List, [], ◌∷◌}
use mathlib.Core.Option.{Option, none, some}
use Prim.Native.Nat.{ℕ, ◌+◌, ◌*◌, ◌≤◌, ◌<◌}
use native.Mathlib.Omega.{arith}
use lib.Dec.{eqb, ltb, leb}
use borrow.Author.Rules.{rules}
use borrow.Author.Tests.{ne_eqb, eqb-true, ltb-true, leb-true}
use Rattle.std.specs.Prelude.{None, Some}
use Rattle.kinds.specs.declared.Row.{Row}
use Rattle.kinds.specs.Kinds.{fixed_length, Kind, table, numbered, kind_of, length_in, parameters_in}
use Rattle.kinds.specs.Inner.{row, row_of}

-- ---- what a row tells

-- the length and the parameters of the kind, and its request
pub row_tells : (o : Option Kind) (a b c : ℕ) (w : Row) → Some w ≡ row o a b c → (w.length ≡ length_in o) × (w.parameters ≡ parameters_in o)
row_tells none a b c w e = let z : ◌≡◌ {A = ℕ} 0 1 = cc in absurd (omega arith)
row_tells (some x) a b c w e = (cc, cc)

-- or that there is no kind
pub row_none : (o : Option Kind) (a b c : ℕ) → None ≡ row o a b c → o ≡ none
row_none none a b c e = refl
row_none (some x) a b c e = let z : ◌≡◌ {A = ℕ} 0 1 = cc in absurd (omega arith)

-- ---- every kind of a list

abbrev pub Each : (Kind → Type 0) → List Kind → Type 0
Each P [] = Unit
Each P (x ∷ xs) = P x × Each P xs

-- a number that no kind of the list has stands for none
unnumbered : (k : ℕ) (xs : List Kind) → Each (λ x. k ≡ x.number → ⊥) xs → numbered k xs ≡ none
unfolding numbered
unnumbered k [] h = refl
unnumbered k (x ∷ xs) h = rw (ne_eqb k x.number h.0) (unnumbered k xs h.1)

pub row_unlisted : (k a b c : ℕ) → Each (λ x. k ≡ x.number → ⊥) table → None ≡ row_of k a b c
unfolding kind_of
row_unlisted k a b c h = rw (unnumbered k table h)

-- ---- the test

-- an entry is its fixed fields and 8 bytes for each parameter, of which there are at most three; its number fits the two bytes that hold it
is_regular : Kind → Bool
is_regular x = eqb x.length (fixed_length + 8 * x.parameters) && leb x.parameters 3 && ltb x.number 65536

-- the table, by one computation
regular : Each (λ x. is_regular x ≡ true) table
unfolding is_regular
regular = search rules

-- ---- what it says of each kind

-- the kind x is the one of the table with the number k
pub record Listed (k : ℕ) (x : Kind) : Type 0 where
  pub number : x.number ≡ k
  pub length : x.length ≡ fixed_length + 8 * x.parameters
  pub few : x.parameters ≤ 3
  pub small : k < 65536

-- what holds of every kind of a list holds of the one that is found there by its number
pub found : (P : Kind → Type 0) (xs : List Kind) (k : ℕ) (x : Kind) → Each P xs → numbered k xs ≡ some x → (x.number ≡ k) × P x
unfolding numbered
found P [] k x h e = let z : ◌≡◌ {A = ℕ} 0 1 = cc in absurd (omega arith)
found P (y ∷ ys) k x h e = go (found P ys k x h.1) (eqb k y.number) refl e
  where
    go : (numbered k ys ≡ some x → (x.number ≡ k) × P x)
        → (t : Bool) → eqb k y.number ≡ t → cond t (some y) (numbered k ys) ≡ some x → (x.number ≡ k) × P x
    go rest true t q =
        let same : y ≡ x = cc in
        (ap (λ (z : Kind). z.number) (sym same) ∙ sym (eqb-true k y.number t), subst P same h.0)
    go rest false t q = rest q

pub listed : (k : ℕ) (x : Kind) → kind_of k ≡ some x → Listed k x
unfolding kind_of is_regular
listed k x e =
    let h = found (λ y. is_regular y ≡ true) table k x regular e in
    let t = (and-eq-true_iff (eqb x.length (fixed_length + 8 * x.parameters) && leb x.parameters 3) (ltb x.number 65536)).0 h.1 in
    let u = (and-eq-true_iff (eqb x.length (fixed_length + 8 * x.parameters)) (leb x.parameters 3)).0 t.0 in
    record {
      number = h.0;
      length = eqb-true x.length (fixed_length + 8 * x.parameters) u.0;
      few = leb-true x.parameters 3 u.1;
      small = omega (arith, h.0, ltb-true x.number 65536 t.1);
    }

-- ---- and of each number

-- what holds where a number is no kind's, and of each kind that has it
pub by_kind : (P : Option Kind → Type 0) (k : ℕ) → P none → ((x : Kind) → kind_of k ≡ some x → Listed k x → P (some x)) → P (kind_of k)
by_kind P k p q = go (kind_of k) refl
  where
    go : (o : Option Kind) → kind_of k ≡ o → P o
    go none e = p
    go (some x) e = q x e (listed k x e)

-- a kind's entry is its fixed fields, and 8 bytes for each parameter
pub shape_length : (k : ℕ) → 0 < length_in (kind_of k) → length_in (kind_of k) ≡ fixed_length + 8 * parameters_in (kind_of k)
shape_length k =
    by_kind (λ o. 0 < length_in o → length_in o ≡ fixed_length + 8 * parameters_in o) k (λ h. absurd (omega arith)) (λ x e l h. l.length)

-- every length fits the two bytes that hold it
pub length_small : (k : ℕ) → length_in (kind_of k) < 65536
length_small k = by_kind (λ o. length_in o < 65536) k (omega arith) (λ x e l. omega (arith, l.length, l.few))

-- a kind has at most three parameters
pub parameters_few : (k : ℕ) → parameters_in (kind_of k) ≤ 3
parameters_few k = by_kind (λ o. parameters_in o ≤ 3) k (omega arith) (λ x e l. l.few)

-- no kind has a number past the two bytes that hold it
pub past_kinds : (k : ℕ) → 65535 < k → kind_of k ≡ none
past_kinds k h = by_kind (λ o. o ≡ none) k refl (λ x e l. absurd (omega (arith, l.small)))

-- a number with a length is a kind's
pub known : (k : ℕ) → 0 < length_in (kind_of k) → (x : Kind) × (kind_of k ≡ some x)
known k h = by_kind (λ o. 0 < length_in o → (x : Kind) × (o ≡ some x)) k (λ n. absurd (omega arith)) (λ x e l n. (x, refl)) h
