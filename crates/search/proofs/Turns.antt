-- A turn of the first run, which has read a word and its fraction: below pi the run goes on, else the remainder follows. Assumes nothing.
use mathlib.Core.Path.{◌≡◌, sym, ◌∙◌}
use mathlib.Core.Bool.{true, false}
use mathlib.Core.List.{List}
use Prim.Native.Nat.{ℕ, ◌+◌}
use lib.ListN.{drop}
use lib.Ieee.{Float, lt}
use Rattle.std.proofs.Common.{Some}
use Rattle.words.specs.Words.{fraction_of}
use Rattle.words.specs.Inner.{word_at}
use Rattle.words.specs.Outcome.{Outcome}
use Rattle.words.specs.Rule.{Rule, more, read, reading}
use Rattle.words.proofs.Reading.{read_at}
use Rattle.search.specs.Search.{Search, first_run, remainder_word, search_rule}

module _ (q : Float) (span : ℕ) (pi : Float) (ws : List ℕ) (d w : ℕ) (f : Float) where
  abbrev rule : Rule Search ℕ
  rule = search_rule q span pi

  module _ (so_far : reading rule ws ≡ read rule (drop d ws) (more (first_run d)) d) (there : word_at ws d ≡ Some w) (is : f ≡ fraction_of w) where
    pub run_on : lt f pi ≡ true → reading rule ws ≡ read rule (drop (d + 1) ws) (more (first_run (d + 1))) (d + 1)
    run_on h = so_far ∙ read_at rule ws d w (first_run d) d there ∙ simp (← is, h)

    pub run_over : lt f pi ≡ false → (o : Outcome ℕ) → o ≡ read rule (drop (d + 1) ws) (more (remainder_word d)) (d + 1) → o ≡ reading rule ws
    run_over h o e = e ∙ sym (so_far ∙ read_at rule ws d w (first_run d) d there ∙ simp (← is, h))
