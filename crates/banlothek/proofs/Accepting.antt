-- What a caller in C reads off `refusal`: it is 0 exactly where the call is accepted, since no refusal has the number 0. Of a delivery that is
-- `deliver_accepted` (Asking). Assumes nothing.
use mathlib.Core.Path.{◌≡◌, refl}
use mathlib.Core.Logic.{◌↔◌}
use native.Mathlib.Omega.{arith}
use Rattle.std.proofs.Common.{ℕ, Result, Ok, Err}
use Rattle.words.specs.declared.Refusal.{Refusal}
use Rattle.words.specs.Outcome.{Outcome, drawn, refused}
use Rattle.words.specs.Paper.{Answer, paper}
use Rattle.words.proofs.OneAnswer.{never_zero}
use Rattle.redraws.specs.declared.Redrawn.{Redrawn}
use Rattle.redraws.specs.declared.Redrawn.TheVariants.{Agrees, Differs}
use Rattle.book.specs.Strike.{struck}
use Rattle.redraws.specs.Redraw.{redrawn}
use Rattle.banlothek.specs.Face.{plain, of_redraw}

-- a call is accepted: its outcome is none of the refusals
abbrev pub Accepted : {A : Type 0} → Outcome A → Type 0
Accepted (drawn a u) = Unit
Accepted (refused n) = ⊥

pub draw_accepted : (a : Answer) → ((plain (paper a)).refusal ≡ 0) ↔ Accepted (paper a)
draw_accepted (Ok d) = ((λ e. tt), (λ t. refl))
draw_accepted (Err x) = (never_zero x, (λ t. absurd t))

pub strike_accepted : (a : Result ℕ Refusal) → ((plain (struck a)).refusal ≡ 0) ↔ Accepted (struck a)
strike_accepted (Ok n) = ((λ e. tt), (λ t. refl))
strike_accepted (Err x) = (never_zero x, (λ t. absurd t))

pub redraw_accepted : (a : Result Redrawn Refusal) → ((of_redraw (redrawn a)).refusal ≡ 0) ↔ Accepted (redrawn a).outcome
redraw_accepted (Ok (Agrees n)) = ((λ e. tt), (λ t. refl))
redraw_accepted (Ok (Differs s)) = ((λ e. omega arith), (λ t. absurd t))
redraw_accepted (Err x) = (never_zero x, (λ t. absurd t))
