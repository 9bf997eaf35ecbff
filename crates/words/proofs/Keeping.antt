-- What each step of a rule keeps holds of what the rule draws: once, for every rule, so that a module's small laws need no walk of their own.
-- Assumes nothing.
use mathlib.Core.Path.{◌≡◌, refl, subst}
use mathlib.Core.Bool.{Bool, true, false, cond}
use mathlib.Core.List.{List, [], ◌∷◌}
use Prim.Native.Nat.{ℕ, zero, suc, ◌<◌, suc-le-suc}
use native.Mathlib.Nat.{zero-lt-suc}
use native.Mathlib.Omega.{arith}
use lib.ListN.{length, drop, get_or}
use Rattle.words.specs.Outcome.{drawn}
use Rattle.words.specs.Rule.{Step, done, more, Rule, read, reading}
use Rattle.words.proofs.Reading.{refused_not_drawn}

-- the first element of what is left after u
first_left : (ws : List ℕ) (u w : ℕ) (xs : List ℕ) → drop u ws ≡ w ∷ xs → (u < length ws) × (get_or ws u 0 ≡ w) × (drop (suc u) ws ≡ xs)
first_left [] zero w xs e = let z : ◌≡◌ {A = ℕ} 0 1 = cc in absurd (omega arith)
first_left [] (suc u) w xs e = let z : ◌≡◌ {A = ℕ} 0 1 = cc in absurd (omega arith)
first_left (y ∷ ws) zero w xs e = (zero-lt-suc (length ws), cc, cc)
first_left (y ∷ ws) (suc u) w xs e = let h = first_left ws u w xs e in (suc-le-suc h.0, h.1, h.2)

-- what holds of a draw holds of an equal one
ends : {A : Type 0} (Q : A → ℕ → Type 0) (d : A) (u : ℕ) → Q d u → (a : A) (v : ℕ) → drawn d u ≡ drawn a v → Q a v
ends {A} Q d u h a v e =
    let p : d ≡ a = cc in
    let q : u ≡ v = cc in
    subst (λ (n : ℕ). Q a n) q (subst (λ (x : A). Q x u) p h)

-- of a step and the place that it leads to: P of a state that wants the word there, Q of what is drawn with that many words
abbrev pub After : {S A : Type 0} → (S → ℕ → Type 0) → (A → ℕ → Type 0) → Step S A → ℕ → Type 0
After P Q (done a) u = Q a u
After P Q (more s) u = P s u

pub after_cond : {S A : Type 0} (P : S → ℕ → Type 0) (Q : A → ℕ → Type 0) (b : Bool) (x y : Step S A) (u : ℕ)
    → (b ≡ true → After P Q x u) → (b ≡ false → After P Q y u) → After P Q (cond b x y) u
after_cond P Q true x y u f g = f refl
after_cond P Q false x y u f g = g refl

module _ {S A : Type 0} (r : Rule S A) (ws : List ℕ) (P : S → ℕ → Type 0) (Q : A → ℕ → Type 0)
    (keeps : (s : S) (u : ℕ) → u < length ws → P s u → After P Q (r.step s (get_or ws u 0)) (suc u)) where
  kept_from : (xs : List ℕ) (st : Step S A) (u : ℕ) → drop u ws ≡ xs → After P Q st u → (a : A) (v : ℕ) → read r xs st u ≡ drawn a v → Q a v
  unfolding read
  kept_from [] (done d) u at h a v e = ends Q d u h a v e
  kept_from [] (more s) u at h a v e = refused_not_drawn (r.short s) a v e
  kept_from (w ∷ xs) (done d) u at h a v e = ends Q d u h a v e
  kept_from (w ∷ xs) (more s) u at h a v e =
      let f = first_left ws u w xs at in
      kept_from xs (r.step s w) (suc u) f.2 (subst (λ (x : ℕ). After P Q (r.step s x) (suc u)) f.1 (keeps s u f.0 h)) a v e

  pub reading_keeps : After P Q r.start 0 → (a : A) (v : ℕ) → reading r ws ≡ drawn a v → Q a v
  reading_keeps h a v e = kept_from ws r.start 0 refl h a v e
