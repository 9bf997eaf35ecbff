-- What a refusal leaves a caller in C: where `refusal` is not 0, copied, used and count are 0, and the book is as it was. Assumes nothing.
use mathlib.Core.Path.{◌≡◌, refl, ap, ◌∙◌}
use mathlib.Core.List.{List}
use mathlib.Core.Option.{Option, none, some, get_or}
use Prim.Native.Nat.{ℕ}
use Rattle.words.specs.Outcome.{Outcome, drawn, refused}
use Rattle.kinds.specs.declared.Request.{Request}
use Rattle.kinds.specs.Kinds.{request_of}
use Rattle.draws.specs.Request.{draw_of}
use Rattle.layout.specs.Standing.{standing}
use Rattle.opening.specs.Calls.{booked}
use Rattle.book.specs.Deliver.{Booking, fresh, copy, after_delivery, deliver_to, deliver}
use Rattle.book.specs.Strike.{after_strike, strike_in, strike}
use Rattle.redraws.specs.Redraw.{redraw}
use Rattle.banlothek.specs.declared.BanlothekAnswer.{BanlothekAnswer}
use Rattle.banlothek.specs.Face.{plain, of_delivery, naming, no_such_kind, deliver_asked, Meets, DrawTells, DeliverTells, StrikeTells, RedrawTells}

-- the answer is a refusal
abbrev pub IsRefusal : BanlothekAnswer → Type 0
IsRefusal a = a.refusal ≡ 0 → ⊥

-- and carries nothing
pub record Bare (a : BanlothekAnswer) : Type 0 where
  pub copied : a.copied ≡ 0
  pub used : a.used ≡ 0
  pub count : a.count ≡ 0

bare : (a : BanlothekAnswer) (n s : ℕ) → a ≡ record { refusal = n; copied = 0; serial = s; used = 0; count = 0 } → Bare a
bare a n s e =
    record { copied = ap (λ (x : BanlothekAnswer). x.copied) e; used = ap (λ (x : BanlothekAnswer). x.used) e; count = ap (λ (x : BanlothekAnswer). x.count) e }

-- what the call came to was refused
refusal_of : {A : Type 0} (fields : Outcome A → BanlothekAnswer) → ((x : A) (u : ℕ) → (fields (drawn x u)).refusal ≡ 0)
    → (a : BanlothekAnswer) (o : Outcome A) → a ≡ fields o → IsRefusal a → (n : ℕ) × (o ≡ refused n)
refusal_of fields zero a (drawn x u) e h = absurd (h (ap (λ (y : BanlothekAnswer). y.refusal) e ∙ zero x u))
refusal_of fields zero a (refused n) e h = (n, refl)

of_fresh : (x : Booking) (u : ℕ) → (of_delivery (drawn x u)).refusal ≡ 0
of_fresh (fresh c) u = refl
of_fresh (copy c) u = refl

-- of a draw
pub draw_bare : (r : Request) (ws : List ℕ) (a : BanlothekAnswer) → DrawTells r ws a → IsRefusal a → Bare a
draw_bare r ws a e h =
    let x = refusal_of plain (λ c u. refl) a (draw_of r ws) e h in
    bare a x.0 0 (e ∙ ap plain x.1)

-- of a delivery, also where the number is no kind's: the book at exit is the one at entry
pub deliver_bare : (ws b : List ℕ) (s k : ℕ) (ps : List ℕ) (a : BanlothekAnswer) (c : List ℕ) → DeliverTells ws b s k ps a c → IsRefusal a
    → Bare a × (c ≡ b)
unfolding deliver deliver_to
deliver_bare ws b s k ps a c m h = go (request_of k ps) m
  where
    go : (o : Option Request) → Meets of_delivery (deliver_asked ws b s o) a c → Bare a × (c ≡ b)
    go none n = (bare a no_such_kind 0 n.answers, n.leaves)
    go (some r) n =
        let o : Outcome Booking = (deliver ws b s r).outcome in
        let x = refusal_of of_delivery of_fresh a o n.answers h in
        (bare a x.0 0 (n.answers ∙ ap of_delivery x.1), n.leaves ∙ ap (λ (y : Outcome Booking). after_delivery y b (standing (booked ws b)) r) x.1)

-- of a strike
pub strike_bare : (ws b : List ℕ) (j : ℕ) (a : BanlothekAnswer) (c : List ℕ) → StrikeTells ws b j a c → IsRefusal a → Bare a × (c ≡ b)
unfolding strike strike_in
strike_bare ws b j a c m h =
    let o : Outcome ℕ = (strike ws b j).outcome in
    let x = refusal_of plain (λ c u. refl) a o m.answers h in
    (bare a x.0 0 (m.answers ∙ ap plain x.1), m.leaves ∙ ap (λ (y : Outcome ℕ). after_strike y b (booked ws b) j) x.1)

-- of a redraw, which can't write the book
pub redraw_bare : (ws b : List ℕ) (a : BanlothekAnswer) → RedrawTells ws b a → IsRefusal a → Bare a
redraw_bare ws b a e h =
    let s : ℕ = get_or (redraw ws b).named 0 in
    let fields : Outcome ℕ → BanlothekAnswer = λ o. naming o s in
    let x = refusal_of fields (λ c u. refl) a (redraw ws b).outcome e h in
    bare a x.0 s (e ∙ ap fields x.1)
