-- The readings `delivered`, `struck` and `redrawn` lose nothing: equal readings, equal answers. So an equation that a contract of `book`
-- states leaves one answer. Assumes nothing.
use mathlib.Core.Path.{◌≡◌, ap}
use Rattle.std.proofs.Common.{ℕ, Result, Ok, Err}
use Rattle.words.specs.declared.Refusal.{Refusal}
use Rattle.words.proofs.OneAnswer.{one_refusal, one_draw}
use Rattle.words.specs.declared.Draw.{Draw}
use Rattle.book.specs.declared.Delivered.{Delivered}
use Rattle.book.specs.declared.Delivered.TheVariants.{Fresh, Copy}
use Rattle.redraws.specs.declared.Redrawn.{Redrawn}
use Rattle.redraws.specs.declared.Redrawn.TheVariants as of-redrawn
use Rattle.book.specs.Deliver.{delivered}
use Rattle.book.specs.Strike.{struck}
use Rattle.redraws.specs.Redraw.{Redrawing, redrawn}

-- of deliveries
pub one_delivered : (a b : Result Delivered Refusal) → delivered a ≡ delivered b → a ≡ b
one_delivered (Ok (Fresh c)) (Ok (Fresh d)) e = ap (λ (x : Draw). Ok (Fresh x)) (one_draw c d (cc) (cc))
one_delivered (Ok (Fresh c)) (Ok (Copy d)) e = cc
one_delivered (Ok (Fresh c)) (Err y) e = cc
one_delivered (Ok (Copy c)) (Ok (Fresh d)) e = cc
one_delivered (Ok (Copy c)) (Ok (Copy d)) e = ap (λ (x : Draw). Ok (Copy x)) (one_draw c d (cc) (cc))
one_delivered (Ok (Copy c)) (Err y) e = cc
one_delivered (Err x) (Ok (Fresh d)) e = cc
one_delivered (Err x) (Ok (Copy d)) e = cc
one_delivered (Err x) (Err y) e = ap Err (one_refusal x y (cc))

-- of strikes
pub one_struck : (a b : Result ℕ Refusal) → struck a ≡ struck b → a ≡ b
one_struck (Ok m) (Ok n) e = cc
one_struck (Ok m) (Err y) e = cc
one_struck (Err x) (Ok n) e = cc
one_struck (Err x) (Err y) e = ap Err (one_refusal x y (cc))

-- of redraws: a 17 that names its serial is none of the other refusals, which name none
from_both : (a b : Result Redrawn Refusal) → (redrawn a).outcome ≡ (redrawn b).outcome → (redrawn a).named ≡ (redrawn b).named → a ≡ b
from_both (Ok (of-redrawn.Agrees m)) (Ok (of-redrawn.Agrees n)) e f = cc
from_both (Ok (of-redrawn.Agrees m)) (Ok (of-redrawn.Differs t)) e f = cc
from_both (Ok (of-redrawn.Agrees m)) (Err y) e f = cc
from_both (Ok (of-redrawn.Differs s)) (Ok (of-redrawn.Agrees n)) e f = cc
from_both (Ok (of-redrawn.Differs s)) (Ok (of-redrawn.Differs t)) e f = cc
from_both (Ok (of-redrawn.Differs s)) (Err y) e f = cc
from_both (Err x) (Ok (of-redrawn.Agrees n)) e f = cc
from_both (Err x) (Ok (of-redrawn.Differs t)) e f = cc
from_both (Err x) (Err y) e f = ap Err (one_refusal x y (cc))

pub one_redrawn : (a b : Result Redrawn Refusal) → redrawn a ≡ redrawn b → a ≡ b
one_redrawn a b e = from_both a b (ap (λ (x : Redrawing). x.outcome) e) (ap (λ (x : Redrawing). x.named) e)
