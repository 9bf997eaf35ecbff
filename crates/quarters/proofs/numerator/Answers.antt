-- `quarters::numerator` meets its contract: the code's list has the thresholds, by computation. Assumes nothing.
use Rattle.std.proofs.Common.{◌≡◌, ℕ, ◌+◌, ◌-◌, ◌<◌, List, get_or, refl, ap, ◌∙◌, arith}
use Rattle.quarters.specs.Quarters.{bottom, top, E, most_quarters}
use Rattle.quarters.proofs.Thresholds.{list_from, at_place}
use Rattle.quarters.proofs.numerator.Goals as goal

-- what stands at a place of such a list
in_list : (xs : List ℕ) → xs ≡ list_from E 1 most_quarters → (i : ℕ) → i < most_quarters → get_or xs i 0 ≡ E (1 + i)
in_list xs same i h = ap (λ (x : List ℕ). get_or x i 0) same ∙ at_place E most_quarters 1 i h

pub returns : goal.returns
unfolding list_from E top bottom
returns c = let e : 1 + (c.args.j - 1) ≡ c.args.j = omega arith in in_list _ refl (c.args.j - 1) (omega arith) ∙ ap E e
