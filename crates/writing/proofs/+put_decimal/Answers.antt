-- `writing::put_decimal` meets its contract: the digits of the tenth, and after them the last. Assumes nothing.
use Rattle.std.proofs.Common.{rules, arith, ap, [], ◌∷◌, ◌+◌, ◌/◌, ◌%◌, length}
use Rattle.writing.specs.Digits.{decimal}
use Rattle.writing.proofs.Writing.{written_next, decimal_small, decimal_more, length_more}
use Rattle.writing.proofs.+put_decimal.Goals as goal

pub put_digit-requires : goal.put_digit-requires
put_digit-requires t c = (omega (arith, ap length (decimal_small c.args.n c.if-n-lt10.true)), search rules)

pub returns-then-n-lt10 : goal.returns-then-n-lt10
returns-then-n-lt10 t c = rw (decimal_small c.args.n c.if-n-lt10.true) c.put_digit.ensures

pub put_decimal-next-requires : goal.put_decimal-next-requires
put_decimal-next-requires t c = (omega arith, omega (arith, length_more c.args.n (omega arith) (omega arith)))

pub put_digit-requires-2 : goal.put_digit-requires-2
put_digit-requires-2 t c = (omega (arith, length_more c.args.n (omega arith) (omega arith)), omega arith)

pub returns : goal.returns
returns t c =
    rw (decimal_more c.args.n c.if-n-lt10.false (omega arith))
    (written_next _ _ _ _ _ _ (decimal (c.args.n / 10)) ((48 + c.args.n % 10) ∷ []) c.put_decimal-next.ensures c.put_digit-2.ensures)
