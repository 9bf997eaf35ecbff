-- RULES, 'Demands', 2, for set-ups, deliveries, strikes and redraws (for draws: `Demand2` of the crate draws, which is part of it): the answer is the
-- rules', each refusal is given exactly on its condition and none earlier, and one answer and one content of the book are possible. Each part
-- speaks of whatever its call's contract allows. Assumes nothing.
use Rattle.std.specs.Prelude.{Result, ℕ, ◌-◌, List, ◌↔◌, ◌≡◌, length}
use Rattle.std.proofs.Math.Option.{some}
use Rattle.words.specs.declared.Refusal.{Refusal}
use Rattle.words.specs.Outcome.{drawn, refused}
use Rattle.words.specs.Refusals.{Condition, First, NoneHolds}
use Rattle.kinds.specs.declared.Request.{Request}
use Rattle.draws.specs.Demand2 as draws
use Rattle.hypergeometric.specs.declared.Hypergeometric.{Hypergeometric}
use Rattle.hypergeometric.specs.SetUp.{SetUp, set_up, tray_refusals, set_up_paper, SetUpAllows}
use Rattle.book.specs.declared.Delivered.{Delivered}
use Rattle.redraws.specs.declared.Redrawn.{Redrawn}
use Rattle.opening.specs.Calls.{booked}
use Rattle.layout.specs.Standing.{standing}
use Rattle.book.specs.Deliver.{Booking, delivered, deliver_refusals, delivery, after_delivery, DeliverAllows}
use Rattle.book.specs.Strike.{struck, strike_refusals, after_strike, StrikeAllows}
use Rattle.redraws.specs.Redraw.{redrawn, redraw_refusals, lowest, RedrawAllows}

-- each call's conditions, in its order, over the entries that the book holds
abbrev pub deliver_conditions : List ℕ → List ℕ → ℕ → Request → List Condition
deliver_conditions ws b s r = deliver_refusals ws b (booked ws b) s r

abbrev pub strike_conditions : List ℕ → List ℕ → ℕ → List Condition
strike_conditions ws b j = strike_refusals ws b (booked ws b) j

abbrev pub redraw_conditions : List ℕ → List ℕ → List Condition
redraw_conditions ws b = redraw_refusals ws b (booked ws b)

-- of a tray's set-up, which reads no word
pub record SetUpDemanded (N K n : ℕ) (a : SetUp) : Type 0 where
  -- a record is given exactly where no condition holds, and it is the rule's
  pub readies : (h : Hypergeometric) (u : ℕ) → (set_up_paper a ≡ drawn h u) ↔ (NoneHolds (tray_refusals N K n) × (set_up N K n ≡ h) × (u ≡ 0))
  pub refuses : (m : ℕ) → (set_up_paper a ≡ refused m) ↔ First m (tray_refusals N K n)
  pub one : (a' : SetUp) → SetUpAllows N K n a' → a' ≡ a

pub record DeliverDemanded (ws b : List ℕ) (s : ℕ) (r : Request) (a : Result Delivered Refusal) (c : List ℕ) : Type 0 where
  -- a count is told, fresh or as a copy, exactly where no condition holds, and it is the rule's
  pub tells : (x : Booking) (u : ℕ) → (delivered a ≡ drawn x u) ↔ (NoneHolds (deliver_conditions ws b s r) × (delivery ws (booked ws b) s r ≡ drawn x u))
  -- a refusal is given exactly when its condition holds and none earlier does
  pub refuses : (n : ℕ) → (delivered a ≡ refused n) ↔ First n (deliver_conditions ws b s r)
  -- the book at exit is the one at entry with the fresh booking appended, or as it was
  pub writes : c ≡ after_delivery (delivered a) b (standing (booked ws b)) r
  -- no other answer and no other content is possible
  pub one : (a' : Result Delivered Refusal) (c' : List ℕ) → DeliverAllows ws b s r a' c' → (a' ≡ a) × (c' ≡ c)

pub record StrikeDemanded (ws b : List ℕ) (j : ℕ) (a : Result ℕ Refusal) (c : List ℕ) : Type 0 where
  pub strikes : (m u : ℕ) → (struck a ≡ drawn m u) ↔ (NoneHolds (strike_conditions ws b j) × (length (booked ws b) - j ≡ m) × (u ≡ 0))
  pub refuses : (n : ℕ) → (struck a ≡ refused n) ↔ First n (strike_conditions ws b j)
  pub writes : c ≡ after_strike (struck a) b (booked ws b) j
  pub one : (a' : Result ℕ Refusal) (c' : List ℕ) → StrikeAllows ws b j a' c' → (a' ≡ a) × (c' ≡ c)

pub record RedrawDemanded (ws b : List ℕ) (a : Result Redrawn Refusal) : Type 0 where
  pub agrees : (m u : ℕ) → ((redrawn a).outcome ≡ drawn m u) ↔ (NoneHolds (redraw_conditions ws b) × (length (booked ws b) ≡ m) × (u ≡ 0))
  pub refuses : (n : ℕ) → ((redrawn a).outcome ≡ refused n) ↔ First n (redraw_conditions ws b)
  -- a 17 names the lowest serial that does not agree, and nothing else names one
  pub names : (s : ℕ) → ((redrawn a).named ≡ some s) ↔ (((redrawn a).outcome ≡ refused 17) × (lowest ws (booked ws b) ≡ some s))
  pub one : (a' : Result Redrawn Refusal) → RedrawAllows ws b a' → a' ≡ a

pub record Demand2 : Type 0 where
  pub draws : draws.Demand2
  pub set_ups : (N K n : ℕ) (a : SetUp) → SetUpAllows N K n a → SetUpDemanded N K n a
  pub deliveries : (ws b : List ℕ) (s : ℕ) (r : Request) (a : Result Delivered Refusal) (c : List ℕ) → DeliverAllows ws b s r a c → DeliverDemanded ws b s r a c
  pub strikes : (ws b : List ℕ) (j : ℕ) (a : Result ℕ Refusal) (c : List ℕ) → StrikeAllows ws b j a c → StrikeDemanded ws b j a c
  pub redraws : (ws b : List ℕ) (a : Result Redrawn Refusal) → RedrawAllows ws b a → RedrawDemanded ws b a
