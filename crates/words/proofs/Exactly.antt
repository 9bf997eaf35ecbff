-- A refusal is given exactly when its condition holds and none earlier does (RULES, 'Refusals'): once, over any list of conditions.
-- Assumes nothing.
use mathlib.Core.Path.{◌≡◌, refl, sym, ap, ◌∙◌, subst}
use mathlib.Core.Bool.{Bool, true, false, cond}
use mathlib.Core.List.{List, [], ◌∷◌, ◌++◌}
use mathlib.Core.Logic.{◌⊎◌, inl, inr, ◌↔◌}
use Prim.Native.Nat.{ℕ}
use Rattle.words.specs.Outcome.{Outcome, drawn, refused}
use Rattle.words.specs.Refusals.{Condition, given, First, NoneHolds}
use Rattle.words.proofs.Reading.{refused_not_drawn}

same_number : {A : Type 0} (m n : ℕ) → ◌≡◌ {A = Outcome A} (refused m) (refused n) → m ≡ n
same_number m n e = cc

-- the condition that holds first is given, whatever the call comes to
pub first_given : {A : Type 0} (cs : List Condition) (o : Outcome A) (n : ℕ) → First n cs → given cs o ≡ refused n
first_given [] o n f = absurd f
first_given (c ∷ cs) o n (inl h) = simp h.0 (ap refused h.1)
first_given (c ∷ cs) o n (inr h) = simp h.0 (first_given cs o n h.1)

-- a refusal that is given is a condition's, or what the call comes to
given_first : {A : Type 0} (cs : List Condition) (o : Outcome A) (n : ℕ) → given cs o ≡ refused n → First n cs ⊎ (o ≡ refused n)
given_first [] o n e = inr e
given_first {A} (c ∷ cs) o n e = go (given_first cs o n) c.holds refl e
  where
    past : c.holds ≡ false → First n cs ⊎ (o ≡ refused n) → First n (c ∷ cs) ⊎ (o ≡ refused n)
    past t (inl f) = inl (inr (t, f))
    past t (inr x) = inr x

    go : (given cs o ≡ refused n → First n cs ⊎ (o ≡ refused n))
        → (b : Bool) → c.holds ≡ b → cond b (refused c.number) (given cs o) ≡ refused n → First n (c ∷ cs) ⊎ (o ≡ refused n)
    go rest true t x = inl (inl (t, same_number {A = A} c.number n x))
    go rest false t x = past t (rest x)

-- some condition of the list holds, and so one holds first
abbrev pub SomeFirst : List Condition → Type 0
SomeFirst cs = (n : ℕ) × First n cs

-- The law. A call that comes to a refusal by itself, as a reading at the tape's end, has a condition for it on the list: `covered`.
pub exactly : {A : Type 0} (cs : List Condition) (o : Outcome A) (covered : (n : ℕ) → o ≡ refused n → SomeFirst cs)
    → (n : ℕ) → (given cs o ≡ refused n) ↔ First n cs
exactly {A} cs o covered n = (λ e. go e (given_first cs o n e), first_given cs o n)
  where
    go : given cs o ≡ refused n → First n cs ⊎ (o ≡ refused n) → First n cs
    go e (inl f) = f
    go e (inr x) =
        let s = covered n x in
        let same : s.0 ≡ n = same_number {A = A} s.0 n (sym (first_given cs o s.0 s.1) ∙ e) in
        subst (λ (m : ℕ). First m cs) same s.1

-- what holds exactly of the rule's outcome holds exactly of an equal answer's reading
pub along : {A B : Type 0} {o p x : Outcome A} → p ≡ o → (o ≡ x) ↔ B → (p ≡ x) ↔ B
along e i = (λ h. i.0 (sym e ∙ h), λ b. e ∙ i.1 b)

-- what holds first in a list holds first whatever comes after it
pub first_before : (cs ds : List Condition) (n : ℕ) → First n cs → First n (cs ++ ds)
first_before [] ds n f = absurd f
first_before (c ∷ cs) ds n (inl h) = inl h
first_before (c ∷ cs) ds n (inr h) = inr (h.0, first_before cs ds n h.1)

-- what holds first in two lists holds first in one of them, and then none of those before it holds
pub first_split : (cs ds : List Condition) (n : ℕ) → First n (cs ++ ds) → First n cs ⊎ (NoneHolds cs × First n ds)
first_split [] ds n f = inr (tt, f)
first_split (c ∷ cs) ds n (inl h) = inl (inl h)
first_split (c ∷ cs) ds n (inr h) = go (first_split cs ds n h.1)
  where
    go : First n cs ⊎ (NoneHolds cs × First n ds) → First n (c ∷ cs) ⊎ (NoneHolds (c ∷ cs) × First n ds)
    go (inl f) = inl (inr (h.0, f))
    go (inr x) = inr ((h.0, x.0), x.1)

-- a list has a first where its tail does
pub some_after : (cs ds : List Condition) → SomeFirst ds → SomeFirst (cs ++ ds)
some_after [] ds s = s
some_after (c ∷ cs) ds s = go (some_after cs ds s) c.holds refl
  where
    go : SomeFirst (cs ++ ds) → (b : Bool) → c.holds ≡ b → SomeFirst ((c ∷ cs) ++ ds)
    go rest true t = (c.number, inl (t, refl))
    go rest false t = (rest.0, inr (t, rest.1))

-- a list's end decides what its beginning passes on
pub given_append : {A : Type 0} (cs ds : List Condition) (o : Outcome A) → given (cs ++ ds) o ≡ given cs (given ds o)
given_append [] ds o = refl
given_append (c ∷ cs) ds o = ap (cond c.holds (refused c.number)) (given_append cs ds o)

-- where no condition of a list holds, it passes everything on
pub none_given : {A : Type 0} (cs : List Condition) (o : Outcome A) → NoneHolds cs → given cs o ≡ o
none_given [] o h = refl
none_given (c ∷ cs) o h = simp h.0 (none_given cs o h.1)

pub none_before : (cs ds : List Condition) → NoneHolds (cs ++ ds) → NoneHolds cs
none_before [] ds h = tt
none_before (c ∷ cs) ds h = (h.0, none_before cs ds h.1)

-- The law's other half: a call draws exactly where no condition holds and it comes to a draw by itself.
pub drawn_exactly : {A : Type 0} (cs : List Condition) (o : Outcome A) (a : A) (u : ℕ)
    → (given cs o ≡ drawn a u) ↔ (NoneHolds cs × (o ≡ drawn a u))
drawn_exactly {A} cs o a u = (to cs, λ h. none_given cs o h.0 ∙ h.1)
  where
    to : (cs : List Condition) → given cs o ≡ drawn a u → NoneHolds cs × (o ≡ drawn a u)
    to [] e = (tt, e)
    to (c ∷ cs) e = go (to cs) c.holds refl e
      where
        go : (given cs o ≡ drawn a u → NoneHolds cs × (o ≡ drawn a u))
            → (b : Bool) → c.holds ≡ b → cond b (refused c.number) (given cs o) ≡ drawn a u → NoneHolds (c ∷ cs) × (o ≡ drawn a u)
        go rest true t x = refused_not_drawn c.number a u x
        go rest false t x = let r = rest x in ((t, r.0), r.1)
