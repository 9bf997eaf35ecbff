-- A delivery is refused exactly by the condition of its list that holds first. Assumes nothing.
use mathlib.Core.Bool.{Bool}
use mathlib.Core.Path.{◌≡◌, sym, ap, ◌∙◌, subst}
use mathlib.Core.List.{List, [], ◌∷◌, ◌++◌}
use mathlib.Core.Logic.{◌↔◌}
use Prim.Native.Nat.{ℕ}
use native.Mathlib.Omega.{arith}
use lib.ListN.{length, drop}
use Rattle.words.specs.Outcome.{Outcome, drawn, refused}
use Rattle.words.specs.Refusals.{Condition, ◌on◌, First}
use Rattle.words.specs.Draw.{shorts, endings}
use Rattle.words.proofs.Exactly.{SomeFirst, exactly, some_after}
use Rattle.words.proofs.Short.{ended_first}
use Rattle.kinds.specs.declared.Request.{Request}
use Rattle.draws.specs.Request.{parameter_refusals, reading_of}
use Rattle.draws.proofs.Laws.{request_ends}
use Rattle.entry.specs.declared.Entry.{Entry}
use Rattle.layout.specs.Standing.{standing}
use Rattle.layout.proofs.Decoding.{by-test}
use Rattle.opening.specs.Calls.{booked, limits}
use Rattle.book.specs.Deliver.{Booking, is_next, is_ahead, is_reused, is_full, when_next, fresh_refusals, deliver_refusals, freshly, delivery, deliver_to, deliver}
use Rattle.book.proofs.Delivering.{next_asked}

freshly_refused : (o : Outcome ℕ) (n : ℕ) → freshly o ≡ refused n → o ≡ refused n
freshly_refused (drawn c u) n e = cc
freshly_refused (refused m) n e = cc

-- a delivery that comes to a refusal by itself has called for a word past the tape's end, and that refusal is on its list
pub fresh_covered : (vs b : List ℕ) (end : ℕ) (r : Request) (n : ℕ) → reading_of r vs ≡ refused n → SomeFirst (fresh_refusals vs b end r)
unfolding fresh_refusals
fresh_covered vs b end r n e =
    let full : Condition = 15 on is_full b end r in
    let short : List Condition = endings shorts (reading_of r vs) in
    some_after (parameter_refusals r) (full ∷ short)
    (some_after (full ∷ []) short (n, ended_first shorts (reading_of r vs) n e (request_ends r vs n e)))

delivery_covered : (ws b : List ℕ) (es : List Entry) (s : ℕ) (r : Request) (n : ℕ) → delivery ws es s r ≡ refused n
    → SomeFirst (deliver_refusals ws b es s r)
unfolding deliver_refusals delivery
delivery_covered ws b es s r n =
    let vs : List ℕ = drop (standing es).place ws in
    let fs : List Condition = fresh_refusals vs b (standing es).end r in
    let firsts : List Condition = limits ws b ++ (13 on is_ahead (length es) s ∷ 14 on is_reused es s r ∷ []) in
    by-test (λ (o : Outcome Booking). o ≡ refused n → SomeFirst (firsts ++ when_next (is_next (length es) s) fs)) (is_next (length es) s)
    (λ t e. subst (λ (cs : List Condition). SomeFirst (firsts ++ cs)) (sym (ap (λ (x : Bool). when_next x fs) t ∙ next_asked fs))
    (some_after firsts fs (fresh_covered vs b (standing es).end r n (freshly_refused (reading_of r vs) n e))))
    (λ t e. let z : ◌≡◌ {A = ℕ} 0 1 = cc in absurd (omega arith))

pub deliver_exactly : (ws b : List ℕ) (s : ℕ) (r : Request) (n : ℕ)
    → ((deliver ws b s r).outcome ≡ refused n) ↔ First n (deliver_refusals ws b (booked ws b) s r)
unfolding deliver deliver_to
deliver_exactly ws b s r n =
    let es : List Entry = booked ws b in
    exactly (deliver_refusals ws b es s r) (delivery ws es s r) (delivery_covered ws b es s r) n
