-- `hypergeometric::reduce` meets its contract. Assumes nothing.
use borrow.Author.Tests.{le-leb, lt-leb}
use Rattle.std.proofs.Common.{ℕ, ◌≡◌, ◌≤◌, sym, subst, arith}
use Rattle.hypergeometric.specs.declared.Reduced.{Reduced}
use Rattle.hypergeometric.specs.Reduction.{population_cap, by_sample, reduction}
use Rattle.hypergeometric.specs.Inner.{Lands, Sizes}
use Rattle.hypergeometric.proofs.Reducing.{marked_lands}
use Rattle.hypergeometric.proofs.Settling.{sizes}
use Rattle.hypergeometric.proofs.reduce.Goals as goal

pub land-requires : goal.land-requires
land-requires c =
    let a = c.args in
    subst (λ (r : Reduced). Lands r.sign r.offset r.n1) (sym c.by_marked-r.ensures)
    (marked_lands a.total_population_size a.population_with_feature a.sample_size (omega arith) c.if-sample_size-total_population_size.false)

-- the sizes of what is returned, which is the reduction
sized : (N K n : ℕ) (r : Reduced) → K ≤ N → n ≤ N → N ≤ population_cap → r ≡ reduction N K n → Sizes N r.n1 r.n2 r.k
sized N K n r a b c e = subst (λ (r : Reduced). Sizes N r.n1 r.n2 r.k) (sym e) (sizes N K n a b c)

pub returns-then-sample_size-total_population_size-clause-is : goal.returns-then-sample_size-total_population_size-clause-is
unfolding reduction by_sample
returns-then-sample_size-total_population_size-clause-is c =
    simp (le-leb _ _ c.if-sample_size-total_population_size.true) c.by_marked-r.ensures

pub returns-then-sample_size-total_population_size-clause-sizes : goal.returns-then-sample_size-total_population_size-clause-sizes
returns-then-sample_size-total_population_size-clause-sizes c =
    sized _ _ _ _ (omega arith) (omega arith) (omega arith) (returns-then-sample_size-total_population_size-clause-is c)

pub returns-clause-is : goal.returns-clause-is
unfolding reduction by_sample
returns-clause-is c =
    simp (lt-leb _ _ c.if-sample_size-total_population_size.false, ← c.by_marked-r.ensures, c.land.ensures, c.neg.ensures)

pub returns-clause-sizes : goal.returns-clause-sizes
returns-clause-sizes c = sized _ _ _ _ (omega arith) (omega arith) (omega arith) (returns-clause-is c)
