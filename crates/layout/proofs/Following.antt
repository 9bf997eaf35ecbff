-- So many entries from a place on: the first of them, and those after it. Assumes nothing.
use mathlib.Core.Path.{◌≡◌, refl}
use mathlib.Core.List.{List, [], ◌∷◌}
use mathlib.Core.Option.{some}
use Prim.Native.Nat.{ℕ, zero, suc, ◌+◌, ◌-◌, ◌≤◌}
use native.Mathlib.Omega.{arith}
use lib.ListN.{length}
use Rattle.entry.specs.declared.Entry.{Entry}
use Rattle.entry.specs.Entry.{length_at, entry_at}
use Rattle.entry.specs.Inner.{HasEntry}
use Rattle.layout.specs.Inner.{entries_from, Lie}

pub from_none : (n : ℕ) (b : List ℕ) (at : ℕ) → n ≡ 0 → entries_from n b at ≡ []
unfolding entries_from
from_none zero b at z = refl
from_none (suc n) b at z = absurd (omega arith)

-- the first of them lies whole, and the others lie after it
pub record First (n : ℕ) (b : List ℕ) (at : ℕ) : Type 0 where
  pub whole : HasEntry b at
  pub short : at + 2 ≤ length b
  pub inside : at + length_at b at ≤ length b
  pub after : (x : ℕ) → x ≡ at + length_at b at → Lie (n - 1) b x
  pub these : (e : Entry) (x : ℕ) → entry_at b at ≡ some e → x ≡ at + length_at b at → entries_from n b at ≡ e ∷ entries_from (n - 1) b x

pub from_first : (n : ℕ) (b : List ℕ) (at : ℕ) → (n ≡ 0 → ⊥) → Lie n b at → First n b at
unfolding entries_from Lie
from_first zero b at z l = absurd (z refl)
from_first (suc n) b at z l =
    let less : suc n - 1 ≡ n = omega arith in
    record {
      whole = l.0;
      short = l.1;
      inside = l.2;
      after = λ x ex. rw (less, ex) l.3;
      these = λ e x ee ex. rw (less, ex, ee);
    }

pub ruleset firsts = (from_none, from_first)
