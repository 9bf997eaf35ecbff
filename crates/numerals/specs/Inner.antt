-- What inner functions speak of: no entry point's contract and no demand rests on it. Assumes nothing.
use Rattle.std.specs.Prelude.{ℕ, ◌^◌, cond, ◌&&◌, List, leb, ltb, length, Option, None, Some}
use Rattle.numerals.specs.Digits.{spells}
use Rattle.numerals.specs.Decimal.{is_whole, nearest_bits}

-- a decimal whose digits before the point spell w, by those after it
unfoldable pub placed : ℕ → List ℕ → Option ℕ
placed w l = cond (is_whole l && (leb (length l) 15 && ltb (spells 10 w l) (10 ^ 15))) (Some (nearest_bits (spells 10 w l) (10 ^ length l))) None
