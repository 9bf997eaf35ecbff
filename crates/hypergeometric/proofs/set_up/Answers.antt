-- `hypergeometric::set_up` meets its contract: the tests stand in the order of the list of refusals. Assumes nothing.
use borrow.Author.Tests.{lt-ltb, le-ltb}
use lib.Ieee.{Float, nan, inf, fin, of_bits, round}
use lib.Ieee.Scale.{finite}
use Rattle.std.proofs.Common.{ℕ, ◌+◌, ◌*◌, ◌<◌, ◌≤◌, ◌≡◌, [], ◌∷◌, refl, sym, ap, ◌∙◌, true, false, not, arith}
use Rattle.std.proofs.lemmas.Bool.Decides.{nat_tests}
use Rattle.std.specs.Float.{float_is_finite}
use Rattle.words.specs.Outcome.{drawn, refused}
use Rattle.words.specs.Refusals.{◌on◌, given}
use Rattle.first_probability.specs.First.{first_probability}
use Rattle.hypergeometric.specs.declared.Reduced.{Reduced}
use Rattle.hypergeometric.specs.Reduction.{population_cap, reduction}
use Rattle.hypergeometric.specs.SetUp.{with_first, set_up, is_taken, zero_or_not_finite, tray_refusals, settled}
use Rattle.hypergeometric.proofs.set_up.Goals as goal
use Rattle.hypergeometric.proofs.set_up.Goals.{then-first-via-then-first, then-first-via-else-first+then-not-is_finite}

pub returns-then-population_with_feature-total_population_size :
    goal.returns-then-population_with_feature-total_population_size
unfolding settled tray_refusals
returns-then-population_with_feature-total_population_size c = grind (arith, nat_tests)

pub returns-then-sample_size-total_population_size : goal.returns-then-sample_size-total_population_size
unfolding settled tray_refusals
returns-then-sample_size-total_population_size c = grind (arith, nat_tests)

pub returns-then-total_population_size-gt-CAP : goal.returns-then-total_population_size-gt-CAP
unfolding settled tray_refusals
returns-then-total_population_size-gt-CAP c = grind (arith, nat_tests)

-- std's test is that of the rules
finite_same : (x : Float) → float_is_finite x ≡ finite x
unfolding float_is_finite
finite_same nan = refl
finite_same (inf s) = refl
finite_same (fin s m e) = refl

-- Past the first three refusals: by the reduction that was made, and a first probability of it.
module _ (N K n : ℕ) (r : Reduced) (p : Float) (a : K ≤ N) (b : n ≤ N) (c : N ≤ population_cap) (e : r ≡ reduction N K n)
    (f : p ≡ first_probability N r.n1 r.n2 r.k) where
  same : set_up N K n ≡ with_first r p
  unfolding set_up
  same = simp (← e, f)

  settled_past : settled N K n ≡ given (6 on not (is_taken N (with_first r p)) ∷ 2 on zero_or_not_finite p ∷ []) (drawn (with_first r p) 0)
  unfolding settled tray_refusals
  settled_past = rw (same, le-ltb N K a, le-ltb N n b, le-ltb population_cap N c)

  too_high : 10 * (N + 2) ≤ (r.k + 1) * (r.n1 + 1) → refused 6 ≡ settled N K n
  unfolding is_taken
  too_high h = sym (settled_past ∙ simp (le-ltb _ _ h))

  module _ (h : (r.k + 1) * (r.n1 + 1) < 10 * (N + 2)) where
    too_large : zero_or_not_finite p ≡ true → refused 2 ≡ settled N K n
    unfolding is_taken
    too_large z = sym (settled_past ∙ simp (lt-ltb _ _ h, z))

    ready : zero_or_not_finite p ≡ false → settled N K n ≡ drawn (with_first r p) 0
    unfolding is_taken
    ready z = settled_past ∙ simp (lt-ltb _ _ h, z)

pub returns-then-r-total_population_size : goal.returns-then-r-total_population_size
returns-then-r-total_population_size c =
    let a = c.args in
    too_high a.total_population_size a.population_with_feature a.sample_size _ _ (omega arith) (omega arith) (omega arith) c.reduce-r.ensures.is refl
    c.if-r-total_population_size.true

pub returns-then-first : goal.returns-then-first
unfolding zero_or_not_finite of_bits round
returns-then-first c =
    let a = c.args in
    let p = c.first_probability-first.result in
    -- where either half of the test is met
    let here : zero_or_not_finite p ≡ true = elim c.then-first.branch [
      | then-first-via-then-first w ↦ simp w.if-first.true
      | then-first-via-else-first+then-not-is_finite w ↦
          simp (w.if-first.false, ap not (sym (finite_same p) ∙ sym w.is_finite.ensures.value ∙ w.if-not-is_finite.true))
    ] in
    too_large a.total_population_size a.population_with_feature a.sample_size _ p (omega arith) (omega arith) (omega arith) c.reduce-r.ensures.is
    c.first_probability-first.ensures c.if-r-total_population_size.false here

-- the record is one that the set-up gives, and what it comes to
given_ready : (c : goal.Else-not-is_finite)
    → settled c.args.total_population_size c.args.population_with_feature c.args.sample_size
    ≡ drawn (with_first c.reduce-r.result c.first_probability-first.result) 0
unfolding zero_or_not_finite of_bits round
given_ready c =
    let p = c.first_probability-first.result in
    let z : zero_or_not_finite p ≡ false = simp (c.if-first.false, ap not (sym (finite_same p) ∙ sym c.is_finite.ensures.value ∙ c.if-not-is_finite.false)) in
    ready _ _ _ _ p (omega arith) (omega arith) (omega arith) c.reduce-r.ensures.is c.first_probability-first.ensures c.if-r-total_population_size.false z

pub invariant_of-result : goal.invariant_of-result
invariant_of-result c =
    let a = c.args in
    record { N = a.total_population_size; K = a.population_with_feature; n = a.sample_size; gives = given_ready c }

pub returns : goal.returns
returns c = sym (given_ready c)
