-- Laws of reading, once for every rule: a turn, the tape's end, done; how many words are used; whose refusal it is. Assumes nothing.
use mathlib.Core.Path.{◌≡◌, refl, sym, ap}
use mathlib.Core.Bool.{true}
use mathlib.Core.List.{List, [], ◌∷◌}
use Prim.Native.Nat.{ℕ, suc, ◌+◌, ◌≤◌}
use native.Mathlib.Numerals.{add-one}
use native.Mathlib.Omega.{arith}
use lib.ListN.{length, drop, drop_of_length-le}
use lib.Seq.{drop-cons}
use Rattle.std.proofs.Common.{Some, None}
use Rattle.words.specs.Inner.{word_at, is_short}
use Rattle.words.specs.Outcome.{drawn, refused}
use Rattle.words.specs.Rule.{Step, done, more, Rule, read, reading}
use Rattle.words.proofs.Tape.{word_there, word_missing}

-- a refusal is no draw
pub refused_not_drawn : {A B : Type 0} (n : ℕ) (a : A) (u : ℕ) → refused n ≡ drawn a u → B
refused_not_drawn n a u e = let z : ◌≡◌ {A = ℕ} 0 1 = cc in absurd (omega arith)

module _ {S A : Type 0} (r : Rule S A) where
  pub read_done : (ws : List ℕ) (a : A) (u : ℕ) → read r ws (done a) u ≡ drawn a u
  unfolding read
  read_done [] a u = refl
  read_done (w ∷ ws) a u = refl

  -- a turn: the word at the place is read
  pub read_at : (ws : List ℕ) (i w : ℕ) (s : S) (u : ℕ) → word_at ws i ≡ Some w
      → read r (drop i ws) (more s) u ≡ read r (drop (i + 1) ws) (r.step s w) (u + 1)
  unfolding read
  read_at ws i w s u e =
      let h = word_there ws i w e in
      rw (add-one i, add-one u, drop-cons ws i 0 h.0) (ap (λ (x : ℕ). read r (drop (suc i) ws) (r.step s x) (suc u)) h.1)

  -- the end: the word that is called for is missing
  pub read_end : (ws : List ℕ) (i : ℕ) (s : S) (u : ℕ) → word_at ws i ≡ None → read r (drop i ws) (more s) u ≡ refused (r.short s)
  unfolding read
  read_end ws i s u e = rw (drop_of_length-le ws (word_missing ws i e))

  -- the words used are those read before and some of the list's
  pub used_from : (ws : List ℕ) (st : Step S A) (u : ℕ) (a : A) (v : ℕ) → read r ws st u ≡ drawn a v → (u ≤ v) × (v ≤ u + length ws)
  unfolding read
  used_from [] (done d) u a v e = let z : u ≡ v = cc in (omega arith, omega arith)
  used_from [] (more s) u a v e = refused_not_drawn (r.short s) a v e
  used_from (w ∷ ws) (done d) u a v e = let z : u ≡ v = cc in (omega arith, omega arith)
  used_from (w ∷ ws) (more s) u a v e = let h = used_from ws (r.step s w) (suc u) a v e in (omega arith, omega arith)

  -- what is refused is refused by the number of the state that was left without its word
  pub refused_from : (ws : List ℕ) (st : Step S A) (u n : ℕ) → read r ws st u ≡ refused n → (s : S) × (r.short s ≡ n)
  unfolding read
  refused_from [] (done d) u n e = refused_not_drawn n d u (sym e)
  refused_from [] (more s) u n e = (s, cc)
  refused_from (w ∷ ws) (done d) u n e = refused_not_drawn n d u (sym e)
  refused_from (w ∷ ws) (more s) u n e = refused_from ws (r.step s w) (suc u) n e

  -- a reading uses at most the words that there are
  pub reading_used : (ws : List ℕ) (a : A) (u : ℕ) → reading r ws ≡ drawn a u → u ≤ length ws
  reading_used ws a u e = let h = used_from ws r.start 0 a u e in omega arith

  -- a rule whose every state is short by a number of the list runs out by such a number alone
  pub reading_ends : ((s : S) → is_short (r.short s) ≡ true) → (ws : List ℕ) (n : ℕ) → reading r ws ≡ refused n → is_short n ≡ true
  reading_ends short ws n e = let s = refused_from ws r.start 0 n e in rw s.1 at (short s.0)
