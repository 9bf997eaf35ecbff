-- The orders in digits, each by computing. Assumes nothing.
use mathlib.Core.List.{List}
use mathlib.Core.Path.{◌≡◌, refl}
use Prim.Native.Nat.{ℕ}
use Rattle.words.specs.Draw.{endings, conditions}
use Rattle.kinds.specs.declared.Request.{Request}
use Rattle.kinds.specs.declared.Request.TheVariants.{Hypergeometric, Poisson, Geometric, StandardGeometric}
use Rattle.poisson.specs.Poisson.{poisson}
use Rattle.geometric.specs.Geometric.{geometric}
use Rattle.standard_geometric.specs.Standard.{standard_geometric}
use Rattle.hypergeometric.specs.SetUp.{tray_refusals}
use Rattle.hypergeometric.specs.Hypergeometric.{hypergeometric}
use Rattle.draws.specs.Request.{drawing}
use Rattle.book.specs.Deliver.{fresh_refusals, deliver_refusals}
use Rattle.book.specs.Strike.{strike_refusals}
use Rattle.redraws.specs.Redraw.{redraw_refusals}
use Rattle.service.specs.StrikeFrom.{strike_from_refusals}
use Rattle.demands.specs.Demand2.{deliver_conditions}
use Rattle.demands.specs.Orders.{order_of, draw_order, deliver_order, Orders}

draw_order_lem : (r : Request) (ws : List ℕ) → order_of (conditions (drawing r) ws) ≡ draw_order r
unfolding endings poisson geometric standard_geometric hypergeometric tray_refusals
draw_order_lem (Hypergeometric N K n) ws = refl
draw_order_lem (Poisson T) ws = refl
draw_order_lem (Geometric p) ws = refl
draw_order_lem StandardGeometric ws = refl

delivery_order : (ws b : List ℕ) (s : ℕ) (r : Request) → order_of (deliver_conditions ws b s r) ≡ deliver_order r
unfolding endings poisson geometric standard_geometric hypergeometric tray_refusals fresh_refusals deliver_refusals
delivery_order ws b s (Hypergeometric N K n) = refl
delivery_order ws b s (Poisson T) = refl
delivery_order ws b s (Geometric p) = refl
delivery_order ws b s StandardGeometric = refl

pub orders : Orders
unfolding tray_refusals strike_refusals strike_from_refusals redraw_refusals
orders =
    record {
      draws = draw_order_lem;
      set_ups = λ N K n. refl;
      deliveries = delivery_order;
      strikes = λ ws b j. refl;
      strikes_from = λ ws b j m. refl;
      redraws = λ ws b. refl;
      listings = λ b. refl;
    }
