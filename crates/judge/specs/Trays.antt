-- RULES, 'Against the Rust'; DIFFERENCES, entry one, as a statement: of every accepted tray and every word, the Rust's count is the count
-- here, or entry one lists it. Assumes nothing.
use Rattle.std.specs.Prelude.{ℕ, min, cond, ◌≡◌, leb}
use Rattle.words.specs.Outcome.{drawn}
use Rattle.words.specs.Refusals.{NoneHolds}
use Rattle.kinds.specs.declared.Request.TheVariants.{Hypergeometric}
use Rattle.hypergeometric.specs.SetUp.{set_up, tray_refusals}
use Rattle.hypergeometric.specs.Hypergeometric.{counted}
use Rattle.hypergeometric.specs.RustWalk.{rust_x, rust_counted}
use Rattle.judge.specs.declared.Verdict.{Verdict}
use Rattle.judge.specs.declared.Verdict.TheVariants.{Agrees, Listed}
use Rattle.judge.specs.Judging.{judged}

-- the verdict on the draw of a tray over the word w
abbrev pub verdict : ℕ → ℕ → ℕ → ℕ → Verdict
verdict N K n w = let h = set_up N K n in judged (Hypergeometric N K n) (drawn (counted h w) 1) (drawn (rust_counted h w) 1)

-- it agrees exactly where the Rust's x keeps to min(n1, k), and there is no other difference than entry one's
abbrev pub OnlyEntryOne : Type 0
OnlyEntryOne = (N K n : ℕ) → NoneHolds (tray_refusals N K n) → (w : ℕ)
    → (let h = set_up N K n in verdict N K n w ≡ cond (leb (rust_x h w) (min h.n1 h.k)) Agrees (Listed 1))
