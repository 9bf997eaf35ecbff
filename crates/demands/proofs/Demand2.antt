-- Demand 2 for deliveries, strikes and redraws, proved. Assumes nothing.
use mathlib.Core.Path.{◌≡◌, sym, ap, ◌∙◌, subst}
use mathlib.Core.Bool.{Bool, false, cond}
use mathlib.Core.List.{List, [], ◌∷◌, ◌++◌}
use mathlib.Core.Logic.{◌↔◌}
use mathlib.Core.Option.{Option, none, some}
use Prim.Native.Nat.{ℕ, ◌-◌}
use lib.Dec.{eqb}
use lib.ListN.{length, drop}
use borrow.Author.Tests.{eq-eqb, eqb-true}
use Rattle.std.proofs.Common.{Result}
use Rattle.words.specs.declared.Refusal.{Refusal}
use Rattle.words.specs.Outcome.{Outcome, drawn, refused}
use Rattle.words.specs.Refusals.{Condition, ◌on◌, given, First, NoneHolds}
use Rattle.words.specs.Draw.{ends_by}
use Rattle.words.proofs.Exactly.{exactly, along, drawn_exactly, none_given}
use Rattle.words.proofs.Reading.{refused_not_drawn}
use Rattle.kinds.specs.declared.Request.{Request}
use Rattle.draws.proofs.Demand2 as draws
use Rattle.hypergeometric.specs.SetUp.{SetUp, set_up, tray_refusals, settled, SetUpAllows}
use Rattle.hypergeometric.proofs.Settling.{one_set_up}
use Rattle.entry.specs.declared.Entry.{Entry}
use Rattle.layout.proofs.Decoding.{by-test}
use Rattle.book.specs.declared.Delivered.{Delivered}
use Rattle.redraws.specs.declared.Redrawn.{Redrawn}
use Rattle.opening.specs.Calls.{Call, booked, limits}
use Rattle.layout.specs.Standing.{standing}
use Rattle.book.specs.Deliver.{Booking, is_next, is_ahead, is_reused, when_next, fresh_refusals, deliver_refusals, delivery, deliver_to, deliver, delivered, DeliverAllows}
use Rattle.book.specs.Strike.{strike_in, strike, struck, StrikeAllows}
use Rattle.redraws.specs.Redraw.{lowest, Redrawing, redraw_of, redraw, redrawn, RedrawAllows}
use Rattle.book.proofs.Delivering.{copy_unrefused}
use Rattle.book.proofs.Refusals.{deliver_exactly}
use Rattle.demands.specs.Demand2.{deliver_conditions, strike_conditions, redraw_conditions, SetUpDemanded, DeliverDemanded, StrikeDemanded, RedrawDemanded, Demand2}
use Rattle.demands.proofs.OneCall.{one_delivered, one_struck, one_redrawn}
use Rattle.demands.proofs.Demand1.{delivery_writes, strike_writes}

-- ---- deliveries

-- a serial that is not next is refused by 1, 11, 12, 13 and 14 alone
pub copy_refusals : {A : Type 0} (ws b : List ℕ) (es : List Entry) (s : ℕ) (r : Request) (o : Outcome A) → is_next (length es) s ≡ false
    → given (deliver_refusals ws b es s r) o ≡ given (limits ws b ++ (13 on is_ahead (length es) s ∷ 14 on is_reused es s r ∷ [])) o
unfolding deliver_refusals
copy_refusals ws b es s r o e =
    let fs : List Condition = fresh_refusals (drop (standing es).place ws) b (standing es).end r in
    let none : NoneHolds (when_next (is_next (length es) s) fs) = subst (λ (x : Bool). NoneHolds (when_next x fs)) (sym e) (copy_unrefused fs) in
    rw (none_given (when_next (is_next (length es) s) fs) o none)

delivery_demanded : (ws b : List ℕ) (s : ℕ) (r : Request) (a : Result Delivered Refusal) (c : List ℕ) → DeliverAllows ws b s r a c → DeliverDemanded ws b s r a c
unfolding deliver deliver_to
delivery_demanded ws b s r a c e =
    let o : delivered a ≡ given (deliver_conditions ws b s r) (delivery ws (booked ws b) s r) = ap (λ (x : Call Booking). x.outcome) e in
    record {
      tells = λ x u. along o (drawn_exactly (deliver_conditions ws b s r) (delivery ws (booked ws b) s r) x u);
      refuses = λ n. along (ap (λ (x : Call Booking). x.outcome) e) (deliver_exactly ws b s r n);
      writes = delivery_writes ws b s r a c e;
      one = λ a' c' e'.
          let same = e' ∙ sym e in
          (one_delivered a' a (ap (λ (x : Call Booking). x.outcome) same), ap (λ (x : Call Booking). x.book) same);
    }

-- ---- set-ups, strikes and redraws

-- what is told with 0 words used
told_exactly : {A : Type 0} (cs : List Condition) (k m : A) (u : ℕ) → (given cs (drawn k 0) ≡ drawn m u) ↔ (NoneHolds cs × (k ≡ m) × (u ≡ 0))
told_exactly cs k m u = (
  λ e. let x = (drawn_exactly cs (drawn k 0) m u).0 e in (x.0, (cc), (cc)),
  λ h. (drawn_exactly cs (drawn k 0) m u).1 (h.0, cc),
)

told_refusals : {A : Type 0} (cs : List Condition) (k : A) (n : ℕ) → (given cs (drawn k 0) ≡ refused n) ↔ First n cs
told_refusals cs k = exactly cs (drawn k 0) (λ n e. refused_not_drawn n k 0 (sym e))

set_up_demanded : (N K n : ℕ) (a : SetUp) → SetUpAllows N K n a → SetUpDemanded N K n a
unfolding settled
set_up_demanded N K n a e =
    record {
      readies = λ h u. along e (told_exactly (tray_refusals N K n) (set_up N K n) h u);
      refuses = λ m. along e (told_refusals (tray_refusals N K n) (set_up N K n) m);
      one = λ a' e'. one_set_up a' a (e' ∙ sym e);
    }

strike_demanded : (ws b : List ℕ) (j : ℕ) (a : Result ℕ Refusal) (c : List ℕ) → StrikeAllows ws b j a c → StrikeDemanded ws b j a c
unfolding strike strike_in
strike_demanded ws b j a c e =
    let o : struck a ≡ given (strike_conditions ws b j) (drawn (length (booked ws b) - j) 0) = ap (λ (x : Call ℕ). x.outcome) e in
    record {
      strikes = λ m u. along o (told_exactly (strike_conditions ws b j) (length (booked ws b) - j) m u);
      refuses = λ n. along o (told_refusals (strike_conditions ws b j) (length (booked ws b) - j) n);
      writes = strike_writes ws b j a c e;
      one = λ a' c' e'.
          let same = e' ∙ sym e in
          (one_struck a' a (ap (λ (x : Call ℕ). x.outcome) same), ap (λ (x : Call ℕ). x.book) same);
    }

-- a serial is named exactly by a 17
named_exactly : (o : Outcome ℕ) (x : Option ℕ) (s : ℕ) → (cond (ends_by 17 o) x none ≡ some s) ↔ ((o ≡ refused 17) × (x ≡ some s))
named_exactly (drawn c u) x s = (λ e. (cc, cc), λ h. cc)
named_exactly (refused n) x s = (
  by-test (λ (y : Option ℕ). y ≡ some s → (◌≡◌ {A = Outcome ℕ} (refused n) (refused 17)) × (x ≡ some s)) (eqb n 17)
      (λ t e. (ap refused (eqb-true n 17 t), e))
      (λ t e. (cc, cc)),
  λ h. let t : n ≡ 17 = cc in rw (eq-eqb n 17 t) h.1,
)

redraw_demanded : (ws b : List ℕ) (a : Result Redrawn Refusal) → RedrawAllows ws b a → RedrawDemanded ws b a
unfolding redraw redraw_of
redraw_demanded ws b a e =
    let o : (redrawn a).outcome ≡ given (redraw_conditions ws b) (drawn (length (booked ws b)) 0) = ap (λ (x : Redrawing). x.outcome) e in
    record {
      agrees = λ m u. along o (told_exactly (redraw_conditions ws b) (length (booked ws b)) m u);
      refuses = λ n. along o (told_refusals (redraw_conditions ws b) (length (booked ws b)) n);
      names = λ s. rw e (named_exactly (given (redraw_conditions ws b) (drawn (length (booked ws b)) 0)) (lowest ws (booked ws b)) s);
      one = λ a' e'. one_redrawn a' a (e' ∙ sym e);
    }

pub demand_2 : Demand2
demand_2 =
    record {
      draws = draws.demand_2;
      set_ups = set_up_demanded;
      deliveries = delivery_demanded;
      strikes = strike_demanded;
      redraws = redraw_demanded;
    }
