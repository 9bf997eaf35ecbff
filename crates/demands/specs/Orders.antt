-- RULES, 'Refusals': the orders in digits, of every call. Assumes nothing.
use Rattle.std.specs.Prelude.{ℕ, List, [], ◌∷◌, map, ◌≡◌}
use Rattle.words.specs.Refusals.{Condition}
use Rattle.words.specs.Draw.{conditions}
use Rattle.kinds.specs.declared.Request.{Request}
use Rattle.kinds.specs.declared.Request.TheVariants.{Hypergeometric, Poisson, Geometric, StandardGeometric}
use Rattle.hypergeometric.specs.SetUp.{tray_refusals}
use Rattle.draws.specs.Request.{drawing}
use Rattle.book_lines.specs.Listing.{listing_refusals}
use Rattle.service.specs.StrikeFrom.{strike_from_refusals}
use Rattle.demands.specs.Demand2.{deliver_conditions, strike_conditions, redraw_conditions}

-- the numbers of a list of conditions
abbrev pub order_of : List Condition → List ℕ
order_of cs = map (λ (c : Condition). c.number) cs

-- a draw: 1, parameters, 10
abbrev pub draw_order : Request → List ℕ
draw_order (Hypergeometric N K n) = 1 ∷ 3 ∷ 4 ∷ 5 ∷ 6 ∷ 2 ∷ 10 ∷ []
draw_order (Poisson T) = 1 ∷ 7 ∷ 10 ∷ []
draw_order (Geometric p) = 1 ∷ 8 ∷ 9 ∷ 10 ∷ []
draw_order StandardGeometric = 1 ∷ 10 ∷ []

-- a delivery: 1, 11, 12, 13, then copy or 14, parameters, 15, 10
abbrev pub deliver_order : Request → List ℕ
deliver_order (Hypergeometric N K n) = 1 ∷ 11 ∷ 12 ∷ 13 ∷ 14 ∷ 3 ∷ 4 ∷ 5 ∷ 6 ∷ 2 ∷ 15 ∷ 10 ∷ []
deliver_order (Poisson T) = 1 ∷ 11 ∷ 12 ∷ 13 ∷ 14 ∷ 7 ∷ 15 ∷ 10 ∷ []
deliver_order (Geometric p) = 1 ∷ 11 ∷ 12 ∷ 13 ∷ 14 ∷ 8 ∷ 9 ∷ 15 ∷ 10 ∷ []
deliver_order StandardGeometric = 1 ∷ 11 ∷ 12 ∷ 13 ∷ 14 ∷ 15 ∷ 10 ∷ []

-- the statement: the conditions by which each call is refused, as demand 2 has them, stand in this order
pub record Orders : Type 0 where
  pub draws : (r : Request) (ws : List ℕ) → order_of (conditions (drawing r) ws) ≡ draw_order r
  pub set_ups : (N K n : ℕ) → order_of (tray_refusals N K n) ≡ 3 ∷ 4 ∷ 5 ∷ 6 ∷ 2 ∷ []
  pub deliveries : (ws b : List ℕ) (s : ℕ) (r : Request) → order_of (deliver_conditions ws b s r) ≡ deliver_order r
  pub strikes : (ws b : List ℕ) (j : ℕ) → order_of (strike_conditions ws b j) ≡ 1 ∷ 11 ∷ 12 ∷ 16 ∷ []
  pub strikes_from : (ws b : List ℕ) (j m : ℕ) → order_of (strike_from_refusals ws b j m) ≡ 1 ∷ 11 ∷ 12 ∷ 16 ∷ []
  pub redraws : (ws b : List ℕ) → order_of (redraw_conditions ws b) ≡ 1 ∷ 11 ∷ 12 ∷ 17 ∷ []
  pub listings : (b : List ℕ) → order_of (listing_refusals b) ≡ 1 ∷ 11 ∷ 12 ∷ []
