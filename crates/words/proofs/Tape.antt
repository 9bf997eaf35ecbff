-- What `word_at` and `too_long` tell of a tape. Assumes nothing.
use mathlib.Core.Path.{◌≡◌}
use mathlib.Core.Bool.{false}
use mathlib.Core.List.{List}
use Prim.Native.Nat.{ℕ, ◌-◌, ◌≤◌, ◌<◌}
use native.Mathlib.Omega.{arith}
use lib.ListN.{length, get_or, take, drop, length-drop}
use lib.Seq.{take_all}
use borrow.Author.Tests.{ltb-false, le-ltb}
use Rattle.std.proofs.lemmas.Option.{slice_get_within, get_or_from_slice_get, slice_get_cases}
use Rattle.std.proofs.Common.{Some, None, slice_get, ◌⊎◌, inl, inr}
use Rattle.words.specs.Words.{most_words, too_long}
use Rattle.words.specs.Inner.{word_at}

module _ (ws : List ℕ) where
  -- a tape that is not too long keeps to the limit, and the other way round
  pub within_limit : too_long ws ≡ false → length ws ≤ most_words
  unfolding too_long
  within_limit e = ltb-false most_words (length ws) e

  pub limit_within : length ws ≤ most_words → too_long ws ≡ false
  unfolding too_long
  limit_within h = le-ltb most_words (length ws) h

  -- a place with a word lies below the tape's length, and the word is the one that stands there
  pub word_there : (i w : ℕ) → word_at ws i ≡ Some w → (i < length ws) × (get_or ws i 0 ≡ w)
  word_there i w e = (slice_get_within ws i w e, get_or_from_slice_get ws i w 0 e)

  -- a place with no word lies at the tape's end or past it
  pub word_missing : (i : ℕ) → word_at ws i ≡ None → length ws ≤ i
  word_missing i e = by_place (slice_get_cases ws i).1
    where
      by_place : ((x : ℕ) × (i < length ws) × (slice_get ws i ≡ Some x) × (get_or ws i x ≡ x)) ⊎ ((length ws ≤ i) × (slice_get ws i ≡ None)) → length ws ≤ i
      by_place (inl h) = let z : ◌≡◌ {A = ℕ} 0 1 = cc in absurd (omega arith)
      by_place (inr h) = h.0

-- the tape from a place on, as it is lent
pub lent_from : (ws : List ℕ) (p : ℕ) → take (length ws - p) (drop p ws) ≡ drop p ws
lent_from ws p = take_all (length ws - p) (drop p ws) (omega (arith, length-drop p ws))
