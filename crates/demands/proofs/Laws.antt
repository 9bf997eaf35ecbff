-- Laws of conditions and outcomes that calls on a book rest on. Assumes nothing.
use mathlib.Core.Path.{◌≡◌, refl}
use mathlib.Core.Bool.{true}
use mathlib.Core.List.{List, [], ◌∷◌, ◌++◌}
use mathlib.Core.Logic.{inl, inr}
use Prim.Native.Nat.{ℕ}
use native.Mathlib.Omega.{arith}
use Rattle.words.specs.Outcome.{Outcome, drawn, refused}
use Rattle.words.specs.Refusals.{Condition, given, First, NoneHolds}
use Rattle.layout.proofs.Decoding.{by-test}

-- a call's two cases: one of its conditions holds first, or none does
pub by_given : {A : Type 0} (P : Outcome A → Type 0) (cs : List Condition) (o : Outcome A)
    → ((n : ℕ) → First n cs → P (refused n)) → (NoneHolds cs → P o) → P (given cs o)
by_given P [] o f g = g tt
by_given P (c ∷ cs) o f g =
    by-test P c.holds (λ t. f c.number (inl (t, refl))) (λ t. by_given P cs o (λ n h. f n (inr (t, h))) (λ h. g (t, h)))

-- they exclude each other
pub not_both : (cs : List Condition) (n : ℕ) → NoneHolds cs → First n cs → ⊥
not_both [] n h f = f
not_both (c ∷ cs) n h (inl f) = let t : c.holds ≡ true = f.0 in let z : ◌≡◌ {A = ℕ} 0 1 = cc h.0 in omega arith
not_both (c ∷ cs) n h (inr f) = not_both cs n h.1 f.1

-- an outcome's two cases
pub by_outcome : {A : Type 0} (P : Outcome A → Type 0) (o : Outcome A)
    → ((a : A) (u : ℕ) → o ≡ drawn a u → P (drawn a u)) → ((n : ℕ) → o ≡ refused n → P (refused n)) → P o
by_outcome P (drawn a u) f g = f a u refl
by_outcome P (refused n) f g = g n refl

-- no condition holds of two lists, one after the other, where none holds of either
pub none_append : (cs ds : List Condition) → NoneHolds cs → NoneHolds ds → NoneHolds (cs ++ ds)
none_append [] ds h k = k
none_append (c ∷ cs) ds h k = (h.0, none_append cs ds h.1 k)

pub none_after : (cs ds : List Condition) → NoneHolds (cs ++ ds) → NoneHolds ds
none_after [] ds h = h
none_after (c ∷ cs) ds h = none_after cs ds h.1
