-- An accepted draw looks at the words that it reports as used and at no others (RULES, 'Words and fractions'): once, for every rule. Assumes nothing.
use mathlib.Core.Path.{◌≡◌, refl, sym, ◌∙◌, subst}
use mathlib.Core.Bool.{Bool, true, false, cond}
use mathlib.Core.List.{List, [], ◌∷◌}
use Prim.Native.Nat.{ℕ, suc, ◌-◌, ◌≤◌, ◌<◌}
use native.Mathlib.Nat.{sub-zero}
use native.Mathlib.Omega.{arith}
use lib.ListN.{take, length-take}
use lib.Seq.{take-take}
use Rattle.words.specs.Outcome.{Outcome, drawn, refused}
use Rattle.words.specs.Rule.{Step, done, more, Rule, read, reading, Local}
use Rattle.words.proofs.Reading.{read_done, used_from, reading_used, refused_not_drawn}

module _ {S A : Type 0} (r : Rule S A) where
  from : (ws vs : List ℕ) (st : Step S A) (u : ℕ) (a : A) (v : ℕ) → read r ws st u ≡ drawn a v → take (v - u) ws ≡ take (v - u) vs → read r vs st u ≡ drawn a v
  unfolding read
  from [] vs (done d) u a v e same = read_done r vs d u ∙ e
  from [] vs (more s) u a v e same = refused_not_drawn (r.short s) a v e
  from (w ∷ ws) vs (done d) u a v e same = read_done r vs d u ∙ e
  from (w ∷ ws) vs (more s) u a v e same =
      let h = used_from r ws (r.step s w) (suc u) a v e in
      let m : v - u ≡ suc (v - suc u) = omega arith in
      go (λ xs q. from ws xs (r.step s w) (suc u) a v e q) vs (subst (λ (k : ℕ). take k (w ∷ ws) ≡ take k vs) m same)
    where
      go : ((xs : List ℕ) → take (v - suc u) ws ≡ take (v - suc u) xs → read r xs (r.step s w) (suc u) ≡ drawn a v)
          → (vs : List ℕ) → w ∷ take (v - suc u) ws ≡ take (suc (v - suc u)) vs → read r vs (more s) u ≡ drawn a v
      go rest [] b = let z : ◌≡◌ {A = ℕ} 0 1 = cc in absurd (omega arith)
      go rest (x ∷ xs) b =
          let p : w ≡ x = cc in
          let q : take (v - suc u) ws ≡ take (v - suc u) xs = cc in
          subst (λ (y : ℕ). read r xs (r.step s y) (suc u) ≡ drawn a v) p (rest xs q)

  pub reading_local : Local (reading r)
  unfolding Local
  reading_local ws vs a v e same = from ws vs r.start 0 a v e (simp sub-zero same)

  -- Exhausted comes in time: with fewer words than it uses, the same reading is refused.
  pub reading_shorter : (ws : List ℕ) (a : A) (u n : ℕ) → reading r ws ≡ drawn a u → n < u → (k : ℕ) × (reading r (take n ws) ≡ refused k)
  unfolding Local
  reading_shorter ws a u n e h = go (reading r (take n ws)) refl
    where
      go : (o : Outcome A) → reading r (take n ws) ≡ o → (k : ℕ) × (reading r (take n ws) ≡ refused k)
      go (refused k) x = (k, x)
      go (drawn b v) x =
          let short : v ≤ n = let z = reading_used r (take n ws) b v x in let l = length-take n ws in omega arith in
          let same : drawn b v ≡ drawn a u = sym (reading_local (take n ws) ws b v x (take-take v n ws short)) ∙ e in
          let z : v ≡ u = cc in
          absurd (omega arith)

-- a test that looks at no word chooses between two readings
pub cond_local : {A : Type 0} (b : Bool) (F G : List ℕ → Outcome A) → Local F → Local G → Local (λ ws. cond b (F ws) (G ws))
cond_local true F G f g = f
cond_local false F G f g = g

-- what reads no word
pub const_local : {A : Type 0} (o : Outcome A) → Local (λ ws. o)
unfolding Local
const_local o ws vs a v e same = e
