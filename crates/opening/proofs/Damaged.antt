-- Refusal 12 in the five clauses of RULES, 'The book': bytes are a damaged book exactly when they are not a sound one. Assumes nothing.
use mathlib.Core.Path.{◌≡◌, refl, sym, ap, ◌∙◌}
use mathlib.Core.Bool.{true, true≢false}
use mathlib.Core.List.{List}
use mathlib.Core.Logic.{◌↔◌}
use mathlib.Core.Option.{Option, none, some}
use Prim.Native.Nat.{ℕ}
use lib.ListN.{length}
use Rattle.bytes_le.proofs.Numbers.{Bytes}
use Rattle.entry.specs.declared.Entry.{Entry}
use Rattle.layout.specs.Book.{decode, is_none}
use Rattle.layout.specs.Sound.{Sound}
use Rattle.layout.proofs.Soundness.{sound_exactly}
use Rattle.opening.specs.Calls.{is_damaged_for, is_damaged}

module _ (ws b : List ℕ) (by : Bytes b) where
  not_sound : is_damaged ws b ≡ true → Sound (length ws) b → ⊥
  unfolding is_damaged_for
  not_sound e s = true≢false (sym e ∙ ap is_none ((sound_exactly (length ws) b by).0 s).1)

  not_decoded : (Sound (length ws) b → ⊥) → is_damaged ws b ≡ true
  unfolding is_damaged_for
  not_decoded h = go (decode (length ws) b) refl
    where
      go : (o : Option (List Entry)) → decode (length ws) b ≡ o → is_none (decode (length ws) b) ≡ true
      go none e = ap is_none e
      go (some es) e = absurd (h ((sound_exactly (length ws) b by).1 (es, e)))

  pub damaged_exactly : (is_damaged ws b ≡ true) ↔ (Sound (length ws) b → ⊥)
  damaged_exactly = (not_sound, not_decoded)
