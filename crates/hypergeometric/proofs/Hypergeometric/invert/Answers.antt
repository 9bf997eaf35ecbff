-- `hypergeometric::Hypergeometric::invert` meets its contract. Assumes nothing.
use Prim.Native.Nat.{zero-le}
use native.Mathlib.Nat.{sub-zero}
use Rattle.std.proofs.Common.{sym, ◌∙◌, arith}
use Rattle.hypergeometric.specs.Inversion.{next_p, inverted}
use Rattle.hypergeometric.proofs.Kept.{kept_small}
use Rattle.hypergeometric.proofs.Walks.{walk_more, walk_below, walk_end}
use Rattle.hypergeometric.proofs.Hypergeometric.invert.Goals as goal

pub loop-p-init : goal.loop-p-init
unfolding inverted
loop-p-init c = (zero-le, simp (c.min-bound.ensures, sub-zero))

pub next_p-p-requires : goal.next_p-p-requires
next_p-p-requires c = (kept_small _ c.self.invariant, omega arith, omega arith)

pub loop-p-preserved : goal.loop-p-preserved
loop-p-preserved c =
    let l = c.loop-p in
    let s = c.self.inside in
    let more = walk_more (next_p s.n1 s.n2 s.k) c.min-bound.result l.x l.u l.p c.if-x-bound.true in
    (omega arith, l.invariant.1 ∙ simp c.loop-p-test.true (more ∙ simp (← c.next_p-p.ensures)))

pub returns-else-x-bound : goal.returns-else-x-bound
returns-else-x-bound c =
    let l = c.loop-p in
    let s = c.self.inside in
    rw (← c.self.view_is)
    (sym (l.invariant.1 ∙ walk_end (next_p s.n1 s.n2 s.k) c.min-bound.result _ l.x l.u l.p c.if-x-bound.false))

pub returns-after-loop-p : goal.returns-after-loop-p
returns-after-loop-p c =
    let l = c.loop-p in
    let s = c.self.inside in
    rw (← c.self.view_is) (sym (l.invariant.1 ∙ simp c.loop-p-test.false (walk_below (next_p s.n1 s.n2 s.k) _ l.x l.u l.p)))
