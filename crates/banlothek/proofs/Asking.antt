-- What a kind's number and three numbers ask for, and what a caller in C reads off a delivery's `refusal`: 100 exactly where the number is no
-- kind's, 0 exactly where the delivery is accepted. Assumes nothing.
use mathlib.Core.Path.{◌≡◌, refl, sym, ap, ◌∙◌, subst}
use mathlib.Core.Bool.{Bool}
use mathlib.Core.List.{List, [], ◌∷◌, ◌++◌}
use mathlib.Core.Logic.{inl, inr, ◌↔◌}
use mathlib.Core.Option.{Option, none, some}
use Prim.Native.Nat.{ℕ, ◌<◌}
use native.Mathlib.Omega.{arith}
use lib.ListN.{length, drop}
use borrow.Author.Rules.{rules}
use Rattle.words.specs.Outcome.{Outcome, drawn, refused}
use Rattle.words.specs.Refusals.{Condition, ◌on◌, First}
use Rattle.words.specs.Draw.{shorts, endings}
use Rattle.poisson.specs.Poisson.{poisson}
use Rattle.geometric.specs.Geometric.{geometric}
use Rattle.standard_geometric.specs.Standard.{standard_geometric}
use Rattle.hypergeometric.specs.SetUp.{tray_refusals}
use Rattle.hypergeometric.specs.Hypergeometric.{hypergeometric}
use Rattle.kinds.specs.declared.Request.{Request}
use Rattle.kinds.specs.declared.Request.TheVariants.{Hypergeometric, Poisson, Geometric, StandardGeometric}
use Rattle.kinds.specs.Kinds.{kind_of, request_of}
use Rattle.kinds.proofs.Requests.{asks_nothing}
use Rattle.draws.specs.Request.{parameter_refusals, reading_of}
use Rattle.entry.specs.declared.Entry.{Entry}
use Rattle.layout.specs.Standing.{standing}
use Rattle.opening.specs.Calls.{booked, limits}
use Rattle.book.specs.Deliver.{Booking, fresh, copy, is_next, is_ahead, is_reused, is_full, when_next, fresh_refusals, deliver_refusals, deliver}
use Rattle.book.proofs.Refusals.{deliver_exactly}
use Rattle.banlothek.specs.declared.BanlothekAnswer.{BanlothekAnswer}
use Rattle.banlothek.specs.Face.{refused_by, of_delivery, no_such_kind, deliver_asked, Meets, DeliverTells}
use Rattle.banlothek.proofs.Accepting.{Accepted}

-- ---- what is asked for

module _ (ws b : List ℕ) (s : ℕ) (o : Option Request) (a : BanlothekAnswer) where
  -- nothing: refused, and the book as it was
  pub nothing_asked : o ≡ none → a ≡ refused_by no_such_kind 0 → Meets of_delivery (deliver_asked ws b s o) a b
  nothing_asked e r = subst (λ (p : Option Request). Meets of_delivery (deliver_asked ws b s p) a b) (sym e) (record { answers = r; leaves = refl })

  -- a request: delivered
  pub request_asked_lem : (r : Request) (c : List ℕ) → o ≡ some r → Meets of_delivery (deliver ws b s r) a c → Meets of_delivery (deliver_asked ws b s o) a c
  request_asked_lem r c e m = subst (λ (p : Option Request). Meets of_delivery (deliver_asked ws b s p) a c) (sym e) m

-- ---- the rules' own numbers

-- from 1 on, and below the number of these functions
abbrev Ruled : ℕ → Type 0
Ruled n = (0 < n) × (n < no_such_kind)

abbrev AllRuled : List Condition → Type 0
AllRuled [] = Unit
AllRuled (c ∷ cs) = Ruled c.number × AllRuled cs

ruled_append : (cs ds : List Condition) → AllRuled cs → AllRuled ds → AllRuled (cs ++ ds)
ruled_append [] ds g h = h
ruled_append (c ∷ cs) ds g h = (g.0, ruled_append cs ds g.1 h)

ruled_next : (next : Bool) (cs : List Condition) → AllRuled cs → AllRuled (when_next next cs)
ruled_next next [] h = tt
ruled_next next (c ∷ cs) h = (h.0, ruled_next next cs h.1)

-- so is the one of a list of them that holds first
first_ruled : (cs : List Condition) (n : ℕ) → AllRuled cs → First n cs → Ruled n
first_ruled [] n h f = absurd f
first_ruled (c ∷ cs) n h (inl f) = subst Ruled f.1 h.0
first_ruled (c ∷ cs) n h (inr f) = first_ruled cs n h.1 f.1

-- each kind's parameters: a line a kind
parameters_ruled : (r : Request) → AllRuled (parameter_refusals r)
unfolding poisson geometric standard_geometric hypergeometric tray_refusals
parameters_ruled (Hypergeometric N K n) = search rules
parameters_ruled (Poisson T) = search rules
parameters_ruled (Geometric p) = search rules
parameters_ruled StandardGeometric = search rules

endings_ruled : {A : Type 0} (o : Outcome A) → AllRuled (endings shorts o)
unfolding endings
endings_ruled o = search rules

fresh_ruled : (vs b : List ℕ) (end : ℕ) (r : Request) → AllRuled (fresh_refusals vs b end r)
unfolding fresh_refusals
fresh_ruled vs b end r =
    let o : Outcome ℕ = reading_of r vs in
    ruled_append (parameter_refusals r) (15 on is_full b end r ∷ endings shorts o) (parameters_ruled r) (search rules, endings_ruled o)

list_ruled : (ws b : List ℕ) (es : List Entry) (s : ℕ) (r : Request) → AllRuled (deliver_refusals ws b es s r)
unfolding deliver_refusals
list_ruled ws b es s r =
    let fs : List Condition = fresh_refusals (drop (standing es).place ws) b (standing es).end r in
    let next : Bool = is_next (length es) s in
    ruled_append (limits ws b) (13 on is_ahead (length es) s ∷ 14 on is_reused es s r ∷ when_next next fs)
    (search rules) (search rules, (search rules, ruled_next next fs (fresh_ruled (drop (standing es).place ws) b (standing es).end r)))

-- so no delivery of a request is refused by 0 or by 100
deliver_ruled : (ws b : List ℕ) (s : ℕ) (r : Request) (n : ℕ) → (deliver ws b s r).outcome ≡ refused n → Ruled n
deliver_ruled ws b s r n e = first_ruled (deliver_refusals ws b (booked ws b) s r) n (list_ruled ws b (booked ws b) s r) ((deliver_exactly ws b s r n).0 e)

-- ---- what the struct says

by_number : (o : Outcome Booking) → ((n : ℕ) → o ≡ refused n → Ruled n) → (of_delivery o).refusal ≡ no_such_kind → ⊥
by_number (drawn (fresh c) u) h e = omega arith
by_number (drawn (copy c) u) h e = omega arith
by_number (refused n) h e = let z = h n refl in omega arith

by_zero : (o : Outcome Booking) → ((n : ℕ) → o ≡ refused n → Ruled n) → ((of_delivery o).refusal ≡ 0) ↔ Accepted o
by_zero (drawn (fresh c) u) h = ((λ e. tt), (λ t. refl))
by_zero (drawn (copy c) u) h = ((λ e. tt), (λ t. refl))
by_zero (refused n) h = ((λ e. let z = h n refl in omega arith), (λ t. absurd t))

module _ (ws b : List ℕ) (s k : ℕ) (ps : List ℕ) (a : BanlothekAnswer) (c : List ℕ) (m : DeliverTells ws b s k ps a c) where
  -- 100 is given exactly where the number is no kind's
  pub no_kind : (a.refusal ≡ no_such_kind) ↔ (kind_of k ≡ none)
  no_kind =
      let r = ap (λ (x : BanlothekAnswer). x.refusal) m.answers in
      let n = asks_nothing k ps in (
        λ e. n.0 (go (request_of k ps) refl (sym r ∙ e)),
        λ e. r ∙ ap (λ (o : Option Request). (of_delivery (deliver_asked ws b s o).outcome).refusal) (n.1 e),
      )
    where
      go : (o : Option Request) → request_of k ps ≡ o → (of_delivery (deliver_asked ws b s o).outcome).refusal ≡ no_such_kind → request_of k ps ≡ none
      go none e h = e
      go (some r) e h = absurd (by_number (deliver ws b s r).outcome (deliver_ruled ws b s r) h)

  -- 0 stands exactly where the delivery is accepted
  pub deliver_accepted : (a.refusal ≡ 0) ↔ Accepted (deliver_asked ws b s (request_of k ps)).outcome
  deliver_accepted =
      let t = go (request_of k ps) in
      let r = ap (λ (x : BanlothekAnswer). x.refusal) m.answers in
      (λ e. t.0 (sym r ∙ e), λ h. r ∙ t.1 h)
    where
      go : (o : Option Request) → ((of_delivery (deliver_asked ws b s o).outcome).refusal ≡ 0) ↔ Accepted (deliver_asked ws b s o).outcome
      go none = ((λ e. omega arith), (λ t. absurd t))
      go (some r) = by_zero (deliver ws b s r).outcome (deliver_ruled ws b s r)
