-- RULES, 'The reduction' and 'The inversion' together: the draw of a tray that the set-up accepts. Assumes nothing.
use Rattle.std.specs.Prelude.{ℕ, []}
use Rattle.words.specs.Words.{fraction_of}
use Rattle.words.specs.Rule.{done, more, Rule, reading}
use Rattle.words.specs.Draw.{Drawing}
use Rattle.hypergeometric.specs.declared.Hypergeometric.{Hypergeometric}
use Rattle.hypergeometric.specs.Reduction.{landing}
use Rattle.hypergeometric.specs.SetUp.{set_up, tray_refusals}
use Rattle.hypergeometric.specs.Inversion.{inverted}

-- one word: its fraction is inverted to x, and the count is offset + sign·x
unfoldable pub counted : Hypergeometric → ℕ → ℕ
counted h w = landing h.sign h.offset (inverted h.n1 h.n2 h.k h.first (fraction_of w))

-- one fraction is drawn, and used is 1
abbrev pub inversion_rule : Hypergeometric → Rule (Unit {0}) ℕ
inversion_rule h = record { start = more tt; step = λ s w. done (counted h w); short = λ s. 10 }

-- the draw from N things, K of them marked, with a sample of n
unfoldable pub hypergeometric : ℕ → ℕ → ℕ → Drawing ℕ
hypergeometric N K n = record { refusals = tray_refusals N K n; reads = reading (inversion_rule (set_up N K n)) }

-- a draw from a kept record: its tray was tested by the set-up
abbrev pub from_kept : Hypergeometric → Drawing ℕ
from_kept h = record { refusals = []; reads = reading (inversion_rule h) }
