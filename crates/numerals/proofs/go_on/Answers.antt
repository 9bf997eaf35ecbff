-- `numerals::go_on` meets its contract: what is left to read from here gives the whole. Assumes nothing.
use Rattle.std.proofs.Common.{rules, arith, ℕ, ◌*◌, sym, ap, ◌∙◌}
use Rattle.numerals.proofs.Reading.{go_end, go_more, go_none, go_over}
use Rattle.numerals.proofs.go_on.Goals as goal

pub returns-in_err-next : goal.returns-in_err-next
returns-in_err-next c =
    rw c.from_residual.ensures
    (sym
    (go_none c.args.text.now c.args.base c.args.most c.loop-byte.value c.loop-byte.byte-index c.from.result (search rules) c.from.ensures (search rules)
    c.in_err-next.ensures.value)
    ∙ c.loop-byte.invariant.1)

pub returns-in_err-checked_mul : goal.returns-in_err-checked_mul
returns-in_err-checked_mul c =
    let b = ap (λ (n : ℕ). c.loop-byte.value * n) c.from-in-loop-byte.ensures in
    rw c.from_residual-in_err-checked_mul.ensures
    (sym
    (go_over c.args.text.now c.args.base c.args.most c.loop-byte.value c.loop-byte.byte-index c.from.result (search rules) c.from.ensures (search rules)
    c.in_ok-next.next (search rules) c.in_ok-next.ensures.value.0 c.in_ok-next.ensures.value.1 (omega (arith, c.in_err-checked_mul.ensures)))
    ∙ c.loop-byte.invariant.1)

pub returns-in_err-value : goal.returns-in_err-value
returns-in_err-value c =
    let b = ap (λ (n : ℕ). c.loop-byte.value * n) c.from-in-loop-byte.ensures in
    rw c.from_residual-in_err-value.ensures
    (sym
    (go_over c.args.text.now c.args.base c.args.most c.loop-byte.value c.loop-byte.byte-index c.from.result (search rules) c.from.ensures (search rules)
    c.in_ok-next.next (search rules) c.in_ok-next.ensures.value.0 c.in_ok-next.ensures.value.1 (omega (arith, c.in_err-value.ensures, c.in_ok-checked_mul.ensures, c.from-in-loop-byte-2.ensures)))
    ∙ c.loop-byte.invariant.1)

pub returns-then-most-value : goal.returns-then-most-value
returns-then-most-value c =
    let b = ap (λ (n : ℕ). c.loop-byte.value * n) c.from-in-loop-byte.ensures in
    sym
    (go_over c.args.text.now c.args.base c.args.most c.loop-byte.value c.loop-byte.byte-index c.from.result (search rules) c.from.ensures (search rules)
    c.in_ok-next.next (search rules) c.in_ok-next.ensures.value.0 c.in_ok-next.ensures.value.1
    (omega (arith, c.in_ok-value.ensures, c.in_ok-checked_mul.ensures, c.from-in-loop-byte-2.ensures)))
    ∙ c.loop-byte.invariant.1

pub loop-byte-preserved : goal.loop-byte-preserved
loop-byte-preserved c =
    let b = ap (λ (n : ℕ). c.loop-byte.value * n) c.from-in-loop-byte.ensures in (
      search rules,
      sym
          (go_more c.args.text.now c.args.base c.args.most c.loop-byte.value c.loop-byte.byte-index c.from.result (search rules) c.from.ensures (search rules)
          c.in_ok-value.value c.in_ok-next.next c.in_ok-next.ensures.value.0 c.in_ok-next.ensures.value.1
          (omega (arith, c.in_ok-value.ensures, c.in_ok-checked_mul.ensures, c.from-in-loop-byte-2.ensures)))
          ∙ c.loop-byte.invariant.1,
    )

pub returns : goal.returns
returns c =
    sym (go_end c.args.text.now c.args.base c.args.most c.loop-byte.value c.loop-byte.byte-index (search rules) (search rules)) ∙ c.loop-byte.invariant.1
