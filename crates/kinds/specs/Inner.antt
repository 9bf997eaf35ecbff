-- The code's types in the table's terms: no entry point's contract and no demand rests on it. Assumes nothing.
use Rattle.std.specs.Prelude.{ℕ, ◌≡◌, None, Some}
use Rattle.std.specs.Prelude.{Option as RustOption}
use Rattle.std.proofs.Math.Option.{Option, none, some}
use Rattle.kinds.specs.declared.Parts.{Parts}
use Rattle.kinds.specs.declared.Row.{Row}
use Rattle.kinds.specs.Kinds.{Kind, kind_of}

-- what the table has for a kind, and the request that three numbers make by it
abbrev pub row : Option Kind → ℕ → ℕ → ℕ → RustOption Row
row none a b c = None
row (some x) a b c = Some (record { length = x.length; parameters = x.parameters; request = x.makes a b c })

abbrev pub row_of : ℕ → ℕ → ℕ → ℕ → RustOption Row
row_of k a b c = row (kind_of k) a b c

-- field by field the same
pub record Alike (p q : Parts) : Type 0 where
  pub kind : p.kind ≡ q.kind
  pub first : p.first ≡ q.first
  pub second : p.second ≡ q.second
  pub third : p.third ≡ q.third
