-- The loop's invariant: the factors that are left, from this product on, give the whole. Assumes nothing.
use Rattle.std.proofs.Common.{◌≡◌, ◌-◌}
use Rattle.first_probability.specs.First.{factors, fraction_of_factorials}
use Rattle.first_probability.proofs.fraction_of_products_of_factorials.Given as goal

abbrev pub invariant-loop-i : goal.invariant-loop-i
invariant-loop-i l =
    fraction_of_factorials l.a l.b l.c l.d ≡ factors l.f.min_top l.f.min_bottom l.f.max_top l.f.max_bottom (l.max_all - l.i) l.i l.result
