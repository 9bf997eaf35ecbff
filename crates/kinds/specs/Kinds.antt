-- RULES, 'The book': the table of kinds, and what a request is. Assumes nothing.
use Rattle.std.specs.Prelude.{ℕ, ◌^◌, ◌<◌, Bool, cond, ◌&&◌, List, [], ◌∷◌, eqb, get_or, take}
use Rattle.std.proofs.Math.Option.{Option, none, some, map}
use Rattle.kinds.specs.declared.Parts.{Parts}
use Rattle.kinds.specs.declared.Request.{Request}
use Rattle.kinds.specs.declared.Request.TheVariants.{Hypergeometric, Poisson, Geometric, StandardGeometric}

-- every entry begins with so many bytes, its fixed fields; its parameters stand after them, 8 bytes each
abbrev pub fixed_length : ℕ
fixed_length = 24

-- ---- from a number

-- a kind: its number, the length of its entry, how many parameters it has, and the request that they make
pub record Kind : Type 0 where
  pub number : ℕ
  pub length : ℕ
  pub parameters : ℕ
  pub makes : ℕ → ℕ → ℕ → Request

abbrev pub kind : ℕ → ℕ → ℕ → (ℕ → ℕ → ℕ → Request) → Kind
kind k l n f = record { number = k; length = l; parameters = n; makes = f }

-- the table: of three numbers a request takes the first, as many as its kind has parameters
abbrev pub table : List Kind
table =
    kind 1 48 3 (λ N K n. Hypergeometric N K n)
    ∷ kind 2 32 1 (λ T _ _. Poisson T)
    ∷ kind 3 32 1 (λ p _ _. Geometric p)
    ∷ kind 4 24 0 (λ _ _ _. StandardGeometric)
    ∷ []

-- the kind that has this number, if one of the list does
unfoldable pub numbered : ℕ → List Kind → Option Kind
numbered k [] = none
numbered k (x ∷ xs) = cond (eqb k x.number) (some x) (numbered k xs)

-- every number that is not in the table is refused
unfoldable pub kind_of : ℕ → Option Kind
kind_of k = numbered k table

-- an entry's length by its kind; 0 stands for no kind, since no entry has that length
abbrev pub length_in : Option Kind → ℕ
length_in none = 0
length_in (some x) = x.length

abbrev pub parameters_in : Option Kind → ℕ
parameters_in none = 0
parameters_in (some x) = x.parameters

-- the request of a kind's number and its parameters; none where the number is no kind's
unfoldable pub request_of : ℕ → List ℕ → Option Request
request_of k ps = map (λ (x : Kind). x.makes (get_or ps 0 0) (get_or ps 1 0) (get_or ps 2 0)) (kind_of k)

-- ---- from a request

abbrev pub parts : ℕ → ℕ → ℕ → ℕ → Parts
parts k a b c = record { kind = k; first = a; second = b; third = c }

-- a request's kind and its parameters, with 0 past the last: N, K, n; the bits of T; the bits of p; none
abbrev pub parts_of : Request → Parts
parts_of (Hypergeometric N K n) = parts 1 N K n
parts_of (Poisson T) = parts 2 T 0 0
parts_of (Geometric p) = parts 3 p 0 0
parts_of StandardGeometric = parts 4 0 0 0

abbrev pub kind_number : Request → ℕ
kind_number r = (parts_of r).kind

abbrev pub three : Parts → List ℕ
three p = p.first ∷ p.second ∷ p.third ∷ []

-- its parameters alone, as many as its kind has
unfoldable pub parameters_of : Request → List ℕ
parameters_of r = take (parameters_in (kind_of (kind_number r))) (three (parts_of r))

-- the length of its entry
abbrev pub length_of : Request → ℕ
length_of r = length_in (kind_of (kind_number r))

-- the same kind and parameter bits
abbrev pub same_parts : Parts → Parts → Bool
same_parts p q = eqb p.kind q.kind && eqb p.first q.first && eqb p.second q.second && eqb p.third q.third

unfoldable pub same_request : Request → Request → Bool
same_request q r = same_parts (parts_of q) (parts_of r)

-- each parameter is a number of 64 bits, as a call's are
abbrev pub AllFit : List ℕ → Type 0
AllFit [] = Unit
AllFit (x ∷ xs) = (x < 2 ^ 64) × AllFit xs

abbrev pub RequestFits : Request → Type 0
RequestFits r = AllFit (parameters_of r)
