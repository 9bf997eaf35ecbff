-- Words can follow any tape with which the search ends: the largest fraction ends the first run, and m = 0 is taken. Assumes nothing.
use mathlib.Core.Path.{◌≡◌, refl, ap}
use mathlib.Core.Bool.{Bool, true, false}
use mathlib.Core.List.{List, [], ◌∷◌}
use Prim.Native.Nat.{ℕ, ◌+◌, ◌-◌, ◌*◌, ◌^◌}
use native.Mathlib.Nat.{zero-mod}
use native.Mathlib.Omega.{arith}
use lib.Ieee.{Float, nan, inf, fin, up, down, round, lt}
use borrow.Author.Tests.{le-ltb, ltb-false}
use Rattle.words.specs.Words.{fraction_of}
use Rattle.words.specs.Rule.{more, Rule}
use Rattle.words.proofs.PastEnd.{Closes, closes_done, closes_more}
use Rattle.search.specs.Power.{halved, power_of, power}
use Rattle.search.specs.Squares.{half}
use Rattle.search.specs.Search.{Search, first_run, remainder_word, acceptance, search_rule}

-- the largest word, whose fraction is not below what is at most a half
abbrev largest : ℕ
largest = 2 ^ 64 - 1

run_ends : (pi : Float) → lt half pi ≡ false → lt (fraction_of largest) pi ≡ false
unfolding lt fraction_of round
run_ends nan h = refl
run_ends (inf s) h = h
run_ends (fin true m e) h = refl
run_ends (fin false m e) h =
    le-ltb ((2 ^ 53 - 1) * 1 * down e) (m * up e * 2 ^ 53) (omega (arith, ltb-false (1 * 1 * down e) (m * up e * 2) h))

module _ (q : Float) (span : ℕ) (pi : Float) (low : lt half pi ≡ false) where
  abbrev rule : Rule Search ℕ
  rule = search_rule q span pi

  -- q^0 is 1
  zero_taken : (d : ℕ) → Closes rule (acceptance d 0) (0 ∷ [])
  unfolding lt fraction_of round power_of halved
  zero_taken d = closes_done rule (acceptance d 0) 0 [] (d * span + 0) refl

  word_closes : (d : ℕ) → Closes rule (remainder_word d) (0 ∷ 0 ∷ [])
  word_closes d = closes_more rule (remainder_word d) (acceptance d 0) 0 (0 ∷ []) (ap (λ (m : ℕ). more (acceptance d m)) (zero-mod span)) (zero_taken d)

  -- a try is taken, or there is another
  try_closes : (d m : ℕ) → Closes rule (acceptance d m) (0 ∷ 0 ∷ 0 ∷ [])
  try_closes d m = go (lt (fraction_of 0) (power q m)) refl
    where
      go : (b : Bool) → lt (fraction_of 0) (power q m) ≡ b → Closes rule (acceptance d m) (0 ∷ 0 ∷ 0 ∷ [])
      go true t = closes_done rule (acceptance d m) 0 (0 ∷ 0 ∷ []) (d * span + m) (rw t)
      go false t = closes_more rule (acceptance d m) (remainder_word d) 0 (0 ∷ 0 ∷ []) (rw t) (word_closes d)

  pub search_closes : (s : Search) → (v : ℕ) × ((vs : List ℕ) × Closes rule s (v ∷ vs))
  search_closes (first_run d) =
      (largest, (0 ∷ 0 ∷ [], closes_more rule (first_run d) (remainder_word d) largest (0 ∷ 0 ∷ []) (rw (run_ends pi low)) (word_closes d)))
  search_closes (remainder_word d) = (0, (0 ∷ [], word_closes d))
  search_closes (acceptance d m) = (0, (0 ∷ 0 ∷ [], try_closes d m))
