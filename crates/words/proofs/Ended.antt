-- A tape that has ended: what a `?` on the word at a place gives where there is none, and what a reading comes to past the last word.
-- Assumes nothing.
use mathlib.Core.Path.{◌≡◌}
use mathlib.Core.List.{List}
use Prim.Native.Nat.{ℕ, ◌≤◌}
use lib.ListN.{length, drop, drop_of_length-le}
use Rattle.std.proofs.Common.{Option, Some, None, Err}
use Rattle.std.specs.Option.{ok_or}
use Rattle.std.specs.Result.{IsErrAnd}
use Rattle.std.proofs.lemmas.Result.{err_from_is_err_and}
use Rattle.words.specs.declared.Refusal.{Refusal}
use Rattle.words.specs.declared.Refusal.TheVariants.{Exhausted}
use Rattle.words.specs.Outcome.{refused}
use Rattle.words.specs.Rule.{Rule, more, read}
use Rattle.words.specs.Paper.{Answer, paper}

pub ended : (o : Option ℕ) (x : Refusal) (a : Answer) → Err x ≡ ok_or o Exhausted → IsErrAnd a (λ y. y ≡ x) → paper a ≡ refused 10
ended None x a e h = let y = err_from_is_err_and a h in let z : a ≡ Err Exhausted = cc in rw z
ended (Some w) x a e h = cc

pub read_out : {S A : Type 0} (r : Rule S A) (ws : List ℕ) (i : ℕ) (s : S) (u : ℕ) → length ws ≤ i → read r (drop i ws) (more s) u ≡ refused (r.short s)
unfolding read
read_out r ws i s u h = rw (drop_of_length-le ws h)
