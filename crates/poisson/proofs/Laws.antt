-- Laws of the Poisson draw: what is promised of it beside the rule itself. Assumes nothing.
use mathlib.Core.Path.{◌≡◌, refl, sym, ap, ap₂, ◌∙◌}
use mathlib.Core.Bool.{true, false}
use mathlib.Core.List.{List, []}
use mathlib.Core.Logic.{◌↔◌}
use Prim.Native.Nat.{ℕ, zero, suc, ◌+◌, ◌≤◌, ◌<◌}
use native.Mathlib.Numerals.{add-one}
use native.Mathlib.Omega.{arith}
use borrow.Author.Count.{below_none, below_more}
use borrow.Author.Tests.{not-false}
use lib.ListN.{length, take, get_or}
use lib.Ieee.{Float, binary64, mul, lt}
use Rattle.words.specs.Words.{most_words, fraction_of}
use Rattle.words.specs.Outcome.{drawn, refused}
use Rattle.words.specs.Rule.{done, more}
use Rattle.words.specs.Refusals.{First}
use Rattle.words.specs.Draw.{conditions, draw}
use Rattle.words.specs.Inner.{is_on}
use Rattle.words.proofs.Reading.{reading_used, reading_ends}
use Rattle.words.proofs.Keeping.{After, after_cond, reading_keeps}
use Rattle.words.proofs.Locality.{reading_local}
use Rattle.words.proofs.Drawing.{accepted_within, accepted_reading}
use Rattle.words.proofs.PastEnd.{reading_can_end}
use Rattle.words.proofs.Lawful.{Lawful, lawful_exactly, lawful_local}
use Rattle.poisson.specs.Poisson.{Product, none, product, while_above, knuth_rule, in_range, poisson}
use Rattle.poisson.proofs.Ending.{knuth_closes}

-- the product of the first n + 1 fractions, multiplied in order
unfoldable pub product_of : List ℕ → ℕ → Float
product_of ws zero = fraction_of (get_or ws 0 0)
product_of ws (suc n) = mul binary64 (product_of ws n) (fraction_of (get_or ws (suc n) 0))

module _ (T : Float) (ws : List ℕ) where
  -- every product up to the nth was above T
  Above : ℕ → Type 0
  Above n = (i : ℕ) → i < n → lt T (product_of ws i) ≡ true

  -- The count is the number of multiplications: every product before the last was above T, and the last is not. Used is count + 1.
  pub record Knuth (c u : ℕ) : Type 0 where
    pub used : u ≡ c + 1
    pub above : (i : ℕ) → i < c → lt T (product_of ws i) ≡ true
    pub last : lt T (product_of ws c) ≡ false

  -- what each multiplication keeps
  Multiplied : Product → ℕ → Type 0
  Multiplied none u = u ≡ 0
  Multiplied (product p n) u = (u ≡ n + 1) × (p ≡ product_of ws n) × Above (n + 1)

  judged : (p : Float) (n u : ℕ) → u ≡ n → p ≡ product_of ws n → Above n → After Multiplied Knuth (while_above T p n) (suc u)
  unfolding Multiplied Above
  judged p n u e same above = after_cond Multiplied Knuth (lt T p) (more (product p n)) (done n) (suc u) up stop
    where
      up : lt T p ≡ true → Multiplied (product p n) (suc u)
      up t = (omega arith, same, below_more (λ (i : ℕ). lt T (product_of ws i) ≡ true) n above (ap (lt T) (sym same) ∙ t))

      stop : lt T p ≡ false → Knuth n (suc u)
      stop t = record { used = omega arith; above = above; last = ap (lt T) (sym same) ∙ t }

  next : (n u : ℕ) (p : Float) → u ≡ n + 1 → p ≡ product_of ws n → mul binary64 p (fraction_of (get_or ws u 0)) ≡ product_of ws (n + 1)
  unfolding product_of
  next n u p e same =
      ap₂ (λ (x : Float) (i : ℕ). mul binary64 x (fraction_of (get_or ws i 0))) same (e ∙ add-one n) ∙ ap (product_of ws) (sym (add-one n))

  keeps : (s : Product) (u : ℕ) → u < length ws → Multiplied s u → After Multiplied Knuth ((knuth_rule T).step s (get_or ws u 0)) (suc u)
  unfolding Multiplied Above product_of
  keeps none u h e = judged (fraction_of (get_or ws u 0)) 0 u e (ap (λ (i : ℕ). fraction_of (get_or ws i 0)) e) (below_none (λ (i : ℕ). lt T (product_of ws i) ≡ true))
  keeps (product p n) u h k = judged (mul binary64 p (fraction_of (get_or ws u 0))) (n + 1) u k.0 (next n u p k.0 k.1) k.2

  module _ (c u : ℕ) (e : draw (poisson T) ws ≡ drawn c u) where
    pub poisson_knuth : Knuth c u
    unfolding poisson Multiplied
    poisson_knuth = reading_keeps (knuth_rule T) ws Multiplied Knuth keeps refl c u (accepted_reading (poisson T) ws c u e)

    -- used is count + 1
    pub poisson_used : u ≡ c + 1
    poisson_used = poisson_knuth.used

    pub poisson_bounds : (u ≤ most_words) × (c < most_words)
    unfolding poisson
    poisson_bounds =
        let k = accepted_within (poisson T) ws c u e in
        let r = reading_used (knuth_rule T) ws c u (accepted_reading (poisson T) ws c u e) in
        let s = poisson_used in
        (omega arith, omega arith)

-- what the layers above are owed; a count has no support
pub poisson_lawful : (T : Float) → Lawful (poisson T) (λ c. Unit)
unfolding poisson is_on
poisson_lawful T =
    record {
      ends = reading_ends (knuth_rule T) (λ s. refl);
      parameters = (refl, tt);
      local = reading_local (knuth_rule T);
      within = reading_used (knuth_rule T);
      can_end = λ h. reading_can_end (knuth_rule T) (λ s. (0, ([], knuth_closes T (not-false (in_range T) h.0) s)));
      fits = λ ws c u e. omega (arith, (poisson_bounds T ws c u e).1);
      support = λ ws c u e. tt;
    }

module _ (T : Float) (ws : List ℕ) where
  -- each refusal is given exactly on its condition, none earlier holding
  pub poisson_exactly : (n : ℕ) → (draw (poisson T) ws ≡ refused n) ↔ First n (conditions (poisson T) ws)
  poisson_exactly = lawful_exactly (poisson T) _ (poisson_lawful T) ws

  -- it looks at the words that it reports as used and at no others
  pub poisson_local : (c u : ℕ) → draw (poisson T) ws ≡ drawn c u
      → (vs : List ℕ) → length vs ≤ most_words → take u ws ≡ take u vs → draw (poisson T) vs ≡ drawn c u
  poisson_local = lawful_local (poisson T) _ (poisson_lawful T) ws
