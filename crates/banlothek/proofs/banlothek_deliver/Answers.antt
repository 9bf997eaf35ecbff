-- `banlothek_deliver` meets its contract: what is delivered is what the table makes of the kind's number and the parameters. Assumes nothing.
use Rattle.std.proofs.Common.{◌≡◌, ℕ, ◌<◌, List, [], ◌∷◌, Ok, sym, ap, ◌∙◌, arith}
use Rattle.std.proofs.lemmas.Result.{OkIff-at_ok, OkIff-at_err}
use Rattle.kinds.specs.Inner.{row_of}
use Rattle.kinds.proofs.Table.{past_kinds}
use Rattle.kinds.proofs.Requests.{asks_nothing, row_asks, row_asks_none}
use Rattle.banlothek.proofs.Asking.{nothing_asked, request_asked_lem}
use Rattle.banlothek.proofs.banlothek_deliver.Goals as goal
use Rattle.banlothek.proofs.banlothek_deliver.Goals.{After-try_from}

abbrev three : ℕ → ℕ → ℕ → List ℕ
three a b c = a ∷ b ∷ c ∷ []

pub returns-in_default : goal.returns-in_default
returns-in_default c =
    let a = c.args in
    let past : a.kind < 65536 → ⊥ = OkIff-at_err c.try_from.result (a.kind < 65536) a.kind c.in_default.field-0 c.try_from.ensures c.in_default.is in
    nothing_asked _ _ a.serial _ _ ((asks_nothing a.kind (three a.first a.second a.third)).1 (past_kinds a.kind (omega (arith, past)))) c.refuse_by.ensures

-- the kind's number is the one that was handed over
same_kind : (c : After-try_from) (k : ℕ) → c.try_from.result ≡ Ok k → k ≡ c.args.kind
same_kind c k e = (OkIff-at_ok c.try_from.result (c.args.kind < 65536) c.args.kind k c.try_from.ensures e).1

pub returns-in-Some : goal.returns-in-Some
returns-in-Some c =
    let a = c.args in
    let row = sym c.in-Some.is ∙ c.row_of.ensures ∙ ap (λ (k : ℕ). row_of k a.first a.second a.third) (same_kind ((goal.at.returns-in-Some c).After-try_from) _ c.in-Ok.is) in
    request_asked_lem _ _ a.serial _ _ _ _ (row_asks a.kind (three a.first a.second a.third) c.in-Some.row row) c.deliver.ensures

pub returns-in-None : goal.returns-in-None
returns-in-None c =
    let a = c.args in
    let row = sym c.in-None.is ∙ c.row_of.ensures ∙ ap (λ (k : ℕ). row_of k a.first a.second a.third) (same_kind ((goal.at.returns-in-None c).After-try_from) _ c.in-Ok.is) in
    nothing_asked _ _ a.serial _ _ (row_asks_none a.kind (three a.first a.second a.third) row) c.refuse_by-in-None.ensures
