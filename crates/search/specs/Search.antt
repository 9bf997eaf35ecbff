-- RULES, 'Geometric', the third way: the search, word by word. Assumes nothing.
use Rattle.std.specs.Prelude.{ℕ, ◌+◌, ◌*◌, ◌%◌, cond, Float}
use Rattle.std.specs.Float.Ieee.{lt}
use Rattle.words.specs.Words.{fraction_of}
use Rattle.words.specs.Rule.{Step, done, more, Rule}
use Rattle.search.specs.Power.{power}

-- what the next word is for
pub data Search : Type 0 where
  first_run : ℕ → Search  -- a fraction of the first run, after d fractions below pi
  remainder_word : ℕ → Search  -- the word of a try for the remainder
  acceptance : ℕ → ℕ → Search  -- the fraction that accepts the try m or not

-- span is 2^k
abbrev pub searching : Float → ℕ → Float → Search → ℕ → Step Search ℕ
-- d is the number of fractions below pi before the first that isn't
searching q span pi (first_run d) w = cond (lt (fraction_of w) pi) (more (first_run (d + 1))) (more (remainder_word d))
-- a try: m is the next word mod 2^k
searching q span pi (remainder_word d) w = more (acceptance d (w % span))
-- m is accepted where the next fraction is below q^m, and the count is d × 2^k + m; else there is another try
searching q span pi (acceptance d m) w = cond (lt (fraction_of w) (power q m)) (done (d * span + m)) (more (remainder_word d))

abbrev pub search_rule : Float → ℕ → Float → Rule Search ℕ
search_rule q span pi = record { start = more (first_run 0); step = searching q span pi; short = λ s. 10 }
