-- What inner functions ask of the bytes that they are lent, and read there: no entry point's contract and no demand rests on it. Assumes nothing.
use Rattle.std.specs.Prelude.{ℕ, ◌+◌, ◌≤◌, ◌<◌, List, Option, length, get_or}
use Rattle.kinds.specs.declared.Row.{Row}
use Rattle.kinds.specs.Kinds.{kind_of, length_in}
use Rattle.kinds.specs.Inner.{row_of}
use Rattle.entry.specs.Entry.{kind_at, parameters_at}

-- an entry of one of the table's kinds lies whole at i
pub record HasEntry (b : List ℕ) (i : ℕ) : Type 0 where
  pub known : 0 < length_in (kind_of (kind_at b i))
  pub room : i + length_in (kind_of (kind_at b i)) ≤ length b

-- what the table has for the kind and the parameters of the entry at i, after f bytes of fixed fields
abbrev pub row_at : ℕ → List ℕ → ℕ → Option Row
row_at f b i = let ps = parameters_at f b i in row_of (kind_at b i) (get_or ps 0 0) (get_or ps 1 0) (get_or ps 2 0)
