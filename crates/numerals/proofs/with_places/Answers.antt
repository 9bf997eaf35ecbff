-- `numerals::with_places` meets its contract: the digits and the power of ten are floats exactly. Assumes nothing.
use Rattle.std.proofs.Common.{arith, ◌<◌, length, sym}
use native.Mathlib.Nat.{pow-le-pow_right}
use Rattle.numerals.proofs.Reading.{continued_is}
use Rattle.numerals.proofs.with_places.Goals as goal

pub nearest-requires : goal.nearest-requires
nearest-requires c =
    let e = c.pow.ensures in
    let ten : 0 < 10 = omega arith in (
      omega (arith, (continued_is 10 _ c.args.places.now c.args.whole c.in_ok-all.all (sym c.in_ok-all.ensures)).2),
      omega (arith, pow-le-pow_right {n = 10} ten {i = 0} {j = length c.args.places.now} (omega arith)),
      omega (arith, pow-le-pow_right {n = 10} ten {i = length c.args.places.now} {j = 15} (omega arith)),
    )
