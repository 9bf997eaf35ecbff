-- Laws of requests: each is read back from its kind's number and its parameters, and two are the same exactly where these are. Assumes nothing.
use mathlib.Core.Path.{◌≡◌, refl, sym, ap, ◌∙◌}
use mathlib.Core.Bool.{true}
use mathlib.Core.Logic.{◌↔◌}
use mathlib.Core.List.{List, [], ◌∷◌}
use mathlib.Core.Option.{Option, none, some, map}
use Prim.Native.Nat.{ℕ, ◌+◌, ◌*◌, ◌^◌, ◌≤◌, ◌<◌}
use native.Mathlib.Omega.{arith}
use lib.ListN.{length, get_or, take}
use lib.Seq.{length-take-le}
use borrow.Author.Rules.{rules}
use Rattle.std.proofs.lemmas.Bool.Decides.{nat_tests}
use Rattle.kinds.specs.declared.Parts.{Parts}
use Rattle.kinds.specs.declared.Request.{Request}
use Rattle.std.specs.Prelude.{None, Some}
use Rattle.kinds.specs.declared.Row.{Row}
use Rattle.kinds.specs.declared.Request.TheVariants.{Hypergeometric, Poisson, Geometric, StandardGeometric}
use Rattle.kinds.specs.Kinds.{fixed_length, Kind, table, numbered, kind_of, length_in, parameters_in, request_of, parts_of, kind_number, three, parameters_of, length_of, same_parts, same_request}
use Rattle.kinds.specs.Inner.{row, row_of, Alike}
use Rattle.kinds.proofs.Table.{row_none, Each, found, Listed, listed, by_kind, shape_length, known}

-- a request is the one of its kind and parameters: a line a kind
pub request_again : (r : Request) → request_of (kind_number r) (parameters_of r) ≡ some r
unfolding request_of parameters_of kind_of numbered
request_again (Hypergeometric N K n) = refl
request_again (Poisson T) = refl
request_again (Geometric p) = refl
request_again StandardGeometric = refl

-- ---- what a kind makes

-- the request that a kind makes of three numbers is of that kind, and its parameters are the first of them
abbrev Made : Kind → Type 0
Made x =
    (a b c : ℕ)
    → (kind_number (x.makes a b c) ≡ x.number)
    × (take x.parameters (three (parts_of (x.makes a b c))) ≡ take x.parameters (a ∷ b ∷ c ∷ []))

-- every kind of the table, by computation
made : Each Made table
made = search rules

-- so the kind with the number k keeps it
made_of : (k : ℕ) (x : Kind) → kind_of k ≡ some x → Made x
unfolding kind_of
made_of k x e = (found Made table k x made e).1

-- ---- the parameters of a request

-- its kind is one of the table
request_kind : (r : Request) → (x : Kind) × (kind_of (kind_number r) ≡ some x)
unfolding request_of
request_kind r = go (kind_of (kind_number r)) refl (request_again r)
  where
    go : (o : Option Kind) → kind_of (kind_number r) ≡ o
        → map (λ (x : Kind). x.makes (get_or (parameters_of r) 0 0) (get_or (parameters_of r) 1 0) (get_or (parameters_of r) 2 0)) o ≡ some r
        → (x : Kind) × (kind_of (kind_number r) ≡ some x)
    go none e q = let z : ◌≡◌ {A = ℕ} 0 1 = cc in absurd (omega arith)
    go (some x) e q = (x, e)

module _ (r : Request) where
  abbrev own : Kind
  own = (request_kind r).0

  is_listed : Listed (kind_number r) own
  is_listed = listed (kind_number r) own (request_kind r).1

  pub request_known : 0 < length_of r
  request_known = rw (request_kind r).1 (omega (arith, is_listed.length))

  -- it has as many parameters as the table says
  pub request_shape : length (parameters_of r) ≡ parameters_in (kind_of (kind_number r))
  unfolding parameters_of
  request_shape = rw (request_kind r).1 (length-take-le own.parameters (three (parts_of r)) (omega (arith, is_listed.few)))

  -- its entry's length by them
  pub request_length : length_of r ≡ fixed_length + 8 * length (parameters_of r)
  request_length = shape_length (kind_number r) request_known ∙ ap (λ (n : ℕ). fixed_length + 8 * n) (sym request_shape)

  -- its kind fits the two bytes that hold it
  pub kind_fits : kind_number r < 256 ^ 2
  kind_fits = omega (arith, is_listed.small)

-- ---- a request by its kind and parameters

-- up to three numbers, place by place
by_place : (ps : List ℕ) → length ps ≤ 3 → take (length ps) (get_or ps 0 0 ∷ get_or ps 1 0 ∷ get_or ps 2 0 ∷ []) ≡ ps
by_place [] h = refl
by_place (a ∷ []) h = refl
by_place (a ∷ b ∷ []) h = refl
by_place (a ∷ b ∷ c ∷ []) h = refl
by_place (a ∷ b ∷ c ∷ d ∷ ps) h = absurd (omega arith)

-- as many parameters as a kind has make a request of that kind, with those parameters
module _ (k : ℕ) (ps : List ℕ) (r : Request) (many : length ps ≡ parameters_in (kind_of k)) (asked : request_of k ps ≡ some r) where
  by_its_kind : (x : Kind) → kind_of k ≡ some x → Listed k x → x.makes (get_or ps 0 0) (get_or ps 1 0) (get_or ps 2 0) ≡ r
      → (kind_number r ≡ k) × (parameters_of r ≡ ps)
  unfolding parameters_of
  by_its_kind x e l q =
      let m = made_of k x e (get_or ps 0 0) (get_or ps 1 0) (get_or ps 2 0) in
      let n : length ps ≡ x.parameters = many ∙ ap parameters_in e in
      let number : kind_number r ≡ k = ap kind_number (sym q) ∙ m.0 ∙ l.number in (
        number,
        rw (number, e)
            (ap (λ (y : Request). take x.parameters (three (parts_of y))) (sym q)
            ∙ m.1
            ∙ ap (λ (i : ℕ). take i (get_or ps 0 0 ∷ get_or ps 1 0 ∷ get_or ps 2 0 ∷ [])) (sym n)
            ∙ by_place ps (omega (arith, l.few))),
      )

  pub kind_again : (kind_number r ≡ k) × (parameters_of r ≡ ps)
  unfolding request_of
  kind_again =
      by_kind (λ o. kind_of k ≡ o → map (λ (x : Kind). x.makes (get_or ps 0 0) (get_or ps 1 0) (get_or ps 2 0)) o ≡ some r → (kind_number r ≡ k) × (parameters_of r ≡ ps))
      k (λ e q. let z : ◌≡◌ {A = ℕ} 0 1 = cc in absurd (omega arith)) (λ x e l _ q. by_its_kind x e l cc) refl asked

-- of three numbers those past a kind's parameters are not looked at
module _ (k a b c x y z : ℕ) where
  made_alike : (m : Kind) → kind_of k ≡ some m → Listed k m → take m.parameters (a ∷ b ∷ c ∷ []) ≡ take m.parameters (x ∷ y ∷ z ∷ [])
      → some (m.makes a b c) ≡ some (m.makes x y z)
  unfolding parameters_of
  made_alike m e l t =
      let f = made_of k m e a b c in
      let g = made_of k m e x y z in
      sym (request_again (m.makes a b c))
      ∙ rw (f.0, g.0, l.number, e) (ap (request_of k) (f.1 ∙ t ∙ sym g.1))
      ∙ request_again (m.makes x y z)

  pub unread : take (parameters_in (kind_of k)) (a ∷ b ∷ c ∷ []) ≡ take (parameters_in (kind_of k)) (x ∷ y ∷ z ∷ [])
      → request_of k (a ∷ b ∷ c ∷ []) ≡ request_of k (x ∷ y ∷ z ∷ [])
  unfolding request_of
  unread =
      by_kind (λ o. take (parameters_in o) (a ∷ b ∷ c ∷ []) ≡ take (parameters_in o) (x ∷ y ∷ z ∷ [])
      → map (λ (m : Kind). m.makes a b c) o ≡ map (λ (m : Kind). m.makes x y z) o)
      k (λ e. refl) (λ m e l t. made_alike m e l t)

-- a kind's number and any parameters make a request
pub known_request : (k : ℕ) (ps : List ℕ) → 0 < length_in (kind_of k) → (r : Request) × (request_of k ps ≡ some r)
unfolding request_of
known_request k ps h =
    let x = known k h in
    (x.0.makes (get_or ps 0 0) (get_or ps 1 0) (get_or ps 2 0), rw x.1)

-- the table's row says the same
pub row_asks : (k : ℕ) (ps : List ℕ) (w : Row) → Some w ≡ row_of k (get_or ps 0 0) (get_or ps 1 0) (get_or ps 2 0) → request_of k ps ≡ some w.request
unfolding request_of
row_asks k ps w =
    by_kind (λ o. Some w ≡ row o (get_or ps 0 0) (get_or ps 1 0) (get_or ps 2 0) → map (λ (x : Kind). x.makes (get_or ps 0 0) (get_or ps 1 0) (get_or ps 2 0)) o ≡ some w.request)
    k (λ e. let z : ◌≡◌ {A = ℕ} 0 1 = cc in absurd (omega arith)) (λ x _ _ e. cc)

-- nothing is asked for exactly where the number is no kind's
pub asks_nothing : (k : ℕ) (ps : List ℕ) → (request_of k ps ≡ none) ↔ (kind_of k ≡ none)
unfolding request_of
asks_nothing k ps = (go (kind_of k), λ e. rw e)
  where
    go : (o : Option Kind) → map (λ (x : Kind). x.makes (get_or ps 0 0) (get_or ps 1 0) (get_or ps 2 0)) o ≡ none → o ≡ none
    go none e = refl
    go (some x) e = let z : ◌≡◌ {A = ℕ} 0 1 = cc in absurd (omega arith)

pub row_asks_none : (k : ℕ) (ps : List ℕ) → None ≡ row_of k (get_or ps 0 0) (get_or ps 1 0) (get_or ps 2 0) → request_of k ps ≡ none
row_asks_none k ps e = (asks_nothing k ps).1 (row_none (kind_of k) (get_or ps 0 0) (get_or ps 1 0) (get_or ps 2 0) e)

-- ---- the same request

-- parts that are alike field by field are equal
pub alike_equal : (p q : Parts) → Alike p q → p ≡ q
alike_equal p q a = λ i. record { kind = a.kind i; first = a.first i; second = a.second i; third = a.third i }

same_self_parts : (p : Parts) → same_parts p p ≡ true
same_self_parts p = grind (arith, nat_tests)

-- parts that are the same are equal
same_parts_equal : (p q : Parts) → same_parts p q ≡ true → p ≡ q
same_parts_equal p q e =
    alike_equal p q
    (record { kind = grind (arith, nat_tests); first = grind (arith, nat_tests); second = grind (arith, nat_tests); third = grind (arith, nat_tests) })

-- a request is the same as itself
pub same_self : (r : Request) → same_request r r ≡ true
unfolding same_request
same_self r = same_self_parts (parts_of r)

-- requests of equal parts are equal
parts_again : (q r : Request) → parts_of q ≡ parts_of r → some q ≡ some r
unfolding parameters_of
parts_again q r e =
    sym (request_again q)
    ∙ ap (λ (p : Parts). request_of p.kind (take (parameters_in (kind_of p.kind)) (three p))) e
    ∙ request_again r

parts_tell : (q r : Request) → parts_of q ≡ parts_of r → q ≡ r
parts_tell q r e = cc (parts_again q r e)

-- two requests are the same exactly where they are equal
pub same_exactly : (q r : Request) → (same_request q r ≡ true) ↔ (q ≡ r)
unfolding same_request
same_exactly q r = (λ e. parts_tell q r (same_parts_equal (parts_of q) (parts_of r) e), λ e. ap (same_request q) (sym e) ∙ same_self q)
