-- `search::power` meets its contract. Assumes nothing.
use Rattle.std.proofs.Common.{ℕ, ◌≡◌, ◌/◌, Float, sym, ap, ◌∙◌}
use borrow.Author.Tests.{eq-eqb, ne_eqb}
use lib.Ieee.{binary64, mul}
use Rattle.search.specs.Power.{odd_times, power_of}
use Rattle.search.proofs.Powers.{power_ends, power_again}
use Rattle.search.proofs.+power.Goals.{then-b-eq1, else-b-eq1, Joined-b-eq1}
use Rattle.search.proofs.+power.Goals as goal

-- where the arms meet, r is multiplied where b is odd
met : (t : ℕ) (c : Joined-b-eq1 t) → c.if-b-eq1.r ≡ odd_times c.args.r c.args.a c.args.b
met t c =
    elim c.if-b-eq1.branch [
      | then-b-eq1 w ↦ simp (eq-eqb _ _ w.if-b-eq1.true) w.r-is
      | else-b-eq1 w ↦ simp (ne_eqb _ _ w.if-b-eq1.false) w.r-is
    ]

pub returns-then-b-eq0 : goal.returns-then-b-eq0
returns-then-b-eq0 t c =
    let a = c.args in
    met t (goal.at.returns-then-b-eq0 t c).Joined-b-eq1 ∙ sym (power_ends a.r a.a a.b c.if-b-eq0.true)

pub returns-else-b-eq0 : goal.returns-else-b-eq0
returns-else-b-eq0 t c =
    let a = c.args in
    c.power.ensures
    ∙ ap (λ (x : Float). power_of x (mul binary64 a.a a.a) (a.b / 2)) (met t (goal.at.returns-else-b-eq0 t c).Joined-b-eq1)
    ∙ sym (power_again a.r a.a a.b c.if-b-eq0.false)
