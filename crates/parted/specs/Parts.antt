-- RULES, 'Lines of pull': text parted at its spaces into words. Assumes nothing.
use Rattle.std.specs.Prelude.{ℕ, zero, suc, List}
use Rattle.numerals.specs.Split.{up_to, past}

abbrev pub space : ℕ
space = 32

-- what follows the first k words
unfoldable pub past_words : ℕ → List ℕ → List ℕ
past_words zero l = l
past_words (suc k) l = past_words k (past space l)

-- the word k, the first being 0; nothing past the last
unfoldable pub word : ℕ → List ℕ → List ℕ
word k l = up_to space (past_words k l)
