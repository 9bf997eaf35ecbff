-- `search::square` meets its contract. Assumes nothing.
use Rattle.std.proofs.Common.{ℕ, suc, ◌≡◌, ◌<◌, ◌+◌, ◌-◌, Float, refl, sym, ap, ◌∙◌, subst, arith}
use lib.Ieee.{round, of_bits}
use Rattle.search.specs.Squares.{Squares, squares}
use Rattle.search.proofs.Squarings.{squaring_again, squaring_reached}
use Rattle.search.proofs.Edge.{Within, within_again, one_left, most_within}
use Rattle.search.proofs.square.Goals as goal

pub loop-pi-init : goal.loop-pi-init
unfolding squares
loop-pi-init c = (omega arith, refl, most_within c.args.q c.requires.0 c.requires.1)

-- in a turn some squarings are left
pub loop-pi-smaller : goal.loop-pi-smaller
unfolding of_bits round
loop-pi-smaller c =
    let l = c.loop-pi in
    let h : l.k < 31 = omega (arith, one_left (31 - l.k) l.pi l.invariant.2 c.loop-pi-test.true) in
    omega arith

pub loop-pi-preserved : goal.loop-pi-preserved
unfolding of_bits round
loop-pi-preserved c =
    let l = c.loop-pi in
    let h : l.k < 31 = omega (arith, one_left (31 - l.k) l.pi l.invariant.2 c.loop-pi-test.true) in
    let e : 31 - l.k ≡ suc (31 - (l.k + 1)) = omega arith in
    let w : Within (suc (31 - (l.k + 1))) l.pi = subst (λ (n : ℕ). Within n l.pi) e l.invariant.2 in (
      omega arith,
      l.invariant.1 ∙ simp c.loop-pi-test.true (squaring_again l.k l.pi h),
      within_again (31 - (l.k + 1)) l.pi w c.loop-pi-test.true,
    )

-- what the squarings came to is what the loop holds
came : (q : Float) (k : ℕ) (pi : Float) (s : Squares) → s ≡ record { k = k; pi = pi } → (q ≡ q) × (k ≡ s.k) × (pi ≡ s.pi)
came q k pi s same = (refl, sym (ap (λ (t : Squares). t.k) same), sym (ap (λ (t : Squares). t.pi) same))

pub returns : goal.returns
unfolding of_bits round
returns c =
    let l = c.loop-pi in
    came c.args.q l.k l.pi (squares c.args.q) (l.invariant.1 ∙ simp c.loop-pi-test.false (squaring_reached (31 - l.k) l.k l.pi))
