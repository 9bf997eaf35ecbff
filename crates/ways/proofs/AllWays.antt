-- Of all counts together there are as many ways as samples (Vandermonde's identity). Assumes nothing.
use mathlib.Core.Path.{◌≡◌, sym, ap, ◌∙◌}
use Prim.Native.Nat.{ℕ, zero, suc, ◌+◌, ◌-◌, ◌≤◌, min}
use native.Mathlib.Nat.{zero-add, add-zero, add-suc, sub-zero, add-sub_of_le, min-eq_left, min-eq_right}
use native.Mathlib.Decide.{dec_le}
use native.Mathlib.Omega.{arith}
use Rattle.ways.specs.Choose.{choose, ways_up_to}
use Rattle.ways.proofs.Choosing.{choose_none, choose_past}

-- where nothing is marked, only the count 0 has ways
none_marked : (b s x : ℕ) → ways_up_to 0 b s x ≡ choose b s
unfolding choose ways_up_to
none_marked b s zero = rw sub-zero (omega arith)
none_marked b s (suc x) = omega (arith, none_marked b s x)

-- Pascal's rule, of one more that is marked: the sample leaves it out, or has it
one_more_marked : (a b s x : ℕ) → ways_up_to (suc a) b (suc s) (suc x) ≡ ways_up_to a b (suc s) (suc x) + ways_up_to a b s x
unfolding choose ways_up_to
one_more_marked a b s zero = let e : suc s - 1 ≡ s = omega arith in rw (e, sub-zero (suc s), sub-zero s, choose_none a) (omega arith)
one_more_marked a b s (suc x) = let e : suc s - suc (suc x) ≡ s - suc x = omega arith in rw e (omega (arith, one_more_marked a b s x))

-- the ways of the counts 0, 1, .. up to the whole sample
up_to_sample : (a b s : ℕ) → ways_up_to a b s s ≡ choose (a + b) s
unfolding choose ways_up_to
up_to_sample zero b s = rw zero-add (none_marked b s s)
up_to_sample (suc a) b zero = rw (choose_none b, choose_none (suc a + b))
up_to_sample (suc a) b (suc s) =
    let e : suc a + b ≡ suc (a + b) = omega arith in
    rw e (omega (arith, one_more_marked a b s s, up_to_sample a b (suc s), up_to_sample a b s))

-- a count above the marked has no ways
past_marked : (a b s d : ℕ) → ways_up_to a b s (a + d) ≡ ways_up_to a b s a
unfolding ways_up_to
past_marked a b s zero = rw add-zero
past_marked a b s (suc d) = rw (add-suc a d, choose_past a (suc (a + d)) (omega arith)) (omega (arith, past_marked a b s d))

-- every sample of s, of a marked and b unmarked, has one of the counts 0, 1, .. up to the lesser of a and s
pub all_ways : (a b s : ℕ) → ways_up_to a b s (min a s) ≡ choose (a + b) s
all_ways a b s = elim (dec_le s a) [
  | yes h ↦ rw (min-eq_right h) (up_to_sample a b s)
  | no h ↦
      let l : a ≤ s = omega arith in
      rw (min-eq_left l) (sym (past_marked a b s (s - a)) ∙ ap (ways_up_to a b s) (add-sub_of_le l) ∙ up_to_sample a b s)
]
