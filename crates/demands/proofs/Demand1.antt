-- Demand 1, proved. Assumes nothing.
use mathlib.Core.Path.{◌≡◌, ap, ◌∙◌}
use mathlib.Core.List.{List}
use Prim.Native.Nat.{ℕ}
use Rattle.std.proofs.Common.{Result}
use Rattle.words.specs.declared.Refusal.{Refusal}
use Rattle.words.specs.Outcome.{Outcome, count_of, used_of}
use Rattle.kinds.specs.declared.Request.{Request}
use Rattle.book.specs.declared.Delivered.{Delivered}
use Rattle.opening.specs.Calls.{Call, booked}
use Rattle.layout.specs.Standing.{standing}
use Rattle.book.specs.Deliver.{Booking, delivered, deliver_to, deliver, after_delivery, DeliverAllows}
use Rattle.book.specs.Strike.{struck, strike_in, strike, after_strike, StrikeAllows}
use Rattle.demands.specs.Demand1.{count_told, Demand1}

-- by its contract a call leaves in the book what its answer says
pub delivery_writes : (ws b : List ℕ) (s : ℕ) (r : Request) (a : Result Delivered Refusal) (c : List ℕ) → DeliverAllows ws b s r a c
    → c ≡ after_delivery (delivered a) b (standing (booked ws b)) r
unfolding deliver deliver_to
delivery_writes ws b s r a c e = rw (ap (λ (x : Call Booking). x.outcome) e) (ap (λ (x : Call Booking). x.book) e)

pub strike_writes : (ws b : List ℕ) (j : ℕ) (a : Result ℕ Refusal) (c : List ℕ) → StrikeAllows ws b j a c → c ≡ after_strike (struck a) b (booked ws b) j
unfolding strike strike_in
strike_writes ws b j a c e = rw (ap (λ (x : Call ℕ). x.outcome) e) (ap (λ (x : Call ℕ). x.book) e)

pub demand_1 : Demand1
demand_1 =
    record {
      draws = λ d ws a h n e. (ap count_of e, ap used_of e);
      set_ups = λ N K m a h n e. ap used_of e;
      deliveries = λ ws b s r a c h n e. (
        ap count_told e,
        ap used_of e,
        delivery_writes ws b s r a c h ∙ ap (λ (o : Outcome Booking). after_delivery o b (standing (booked ws b)) r) e,
      );
      strikes = λ ws b j a c h n e. (
        ap count_of e,
        ap used_of e,
        strike_writes ws b j a c h ∙ ap (λ (o : Outcome ℕ). after_strike o b (booked ws b) j) e,
      );
      redraws = λ ws b a h n e. (ap count_of e, ap used_of e);
    }
