-- What goes into 32 bits of the answer fits them: the words that a draw or a delivery used, and the serial that a redraw names.
-- Assumes nothing.
use mathlib.Core.Path.{◌≡◌, refl, sym, ap}
use mathlib.Core.List.{List, [], ◌∷◌}
use mathlib.Core.Option
use mathlib.Core.Option.{Option, none, some}
use Prim.Native.Nat.{ℕ, zero, suc, ◌+◌, ◌-◌, ◌^◌, ◌<◌}
use native.Mathlib.Omega.{arith}
use lib.ListN.{length, get_or, drop, length-drop}
use Rattle.words.specs.Outcome.{Outcome, drawn, refused, used_of}
use Rattle.words.specs.Draw.{ends_by}
use Rattle.words.proofs.Tape.{within_limit}
use Rattle.words.proofs.Exactly.{drawn_exactly}
use Rattle.words.proofs.Reading.{refused_not_drawn}
use Rattle.bytes_le.proofs.Numbers.{Bytes}
use Rattle.kinds.specs.declared.Request.{Request}
use Rattle.kinds.specs.Kinds.{numbered, kind_of, parameters_of}
use Rattle.draws.specs.Request.{reading_of, draw_of}
use Rattle.draws.proofs.Laws.{request_within, request_used}
use Rattle.entry.specs.declared.Entry.{Entry}
use Rattle.layout.specs.Book.{used_all, decode}
use Rattle.entry.proofs.Entries.{Fits}
use Rattle.layout.proofs.Decoding.{by-test, Chain, written}
use Rattle.opening.specs.Calls.{booked_for, booked}
use Rattle.book.specs.Deliver.{Booking, is_next, booked_at, deliver_refusals, freshly, delivery, deliver_to, deliver}
use Rattle.entry.specs.Entry.{blank}
use Rattle.redraws.specs.Redraw.{redraw_of, redraw}
use Rattle.redraws.proofs.Redrawing.{lowest_first}

-- what a request's draw comes to uses no more words than a tape may have
pub draw_fits : (r : Request) (ws : List ℕ) (o : Outcome ℕ) → o ≡ draw_of r ws → used_of o < 2 ^ 32
draw_fits r ws (drawn c u) e = omega (arith, request_used r ws c u (sym e))
draw_fits r ws (refused n) e = omega arith

-- entries that follow one another have numbers that fit their fields, and so has the blank past their end
each_fits : (es : List Entry) (s p i : ℕ) → Chain s p es → Fits (get_or es i blank)
unfolding numbered kind_of parameters_of
each_fits [] s p i c =
    record { request_fits = tt; serial_fits = omega arith; place_fits = omega arith; used_fits = omega arith; count_fits = omega arith }
each_fits (e ∷ es) s p zero c = c.0.0
each_fits (e ∷ es) s p (suc i) c = each_fits es (s + 1) (p + e.used) i c.1

-- a reading that comes to a fresh delivery drew a count with the same words used
freshly_read : (o : Outcome ℕ) (x : Booking) (u : ℕ) → freshly o ≡ drawn x u → (c : ℕ) × (o ≡ drawn c u)
freshly_read (drawn c v) x u e = let z : v ≡ u = cc in (c, ap (drawn c) z)
freshly_read (refused n) x u e = refused_not_drawn n x u e

module _ (ws b : List ℕ) (by : Bytes b) where
  -- so the numbers of a book's entries fit their fields
  booked_fits : (i : ℕ) → Fits (get_or (booked ws b) i blank)
  unfolding booked_for
  booked_fits i = go (decode (length ws) b) refl
    where
      go : (o : Option (List Entry)) → decode (length ws) b ≡ o → Fits (get_or (Option.get_or o []) i blank)
      go none e = each_fits [] 1 0 i tt
      go (some es) e = each_fits es 1 0 i (written (length ws) b es by e).chain

  -- a fresh delivery uses words of the tape, and a copy tells what its entry holds
  pub delivery_fits : (s : ℕ) (r : Request) (x : Booking) (u : ℕ) → (deliver ws b s r).outcome ≡ drawn x u → u < 2 ^ 32
  unfolding deliver deliver_to deliver_refusals delivery
  delivery_fits s r x u e =
      let es : List Entry = booked ws b in
      let vs : List ℕ = drop (used_all es) ws in
      let d = (drawn_exactly (deliver_refusals ws b es s r) (delivery ws es s r) x u).0 e in
      by-test (λ (o : Outcome Booking). o ≡ drawn x u → u < 2 ^ 32) (is_next (length es) s)
      (λ _ q.
      let f = freshly_read (reading_of r vs) x u q in
      let h = within_limit ws d.0.0 in
      omega (arith, request_within r vs f.0 u f.1, length-drop (used_all es) ws))
      (λ _ q. let z : (booked_at es s).used ≡ u = cc in omega (arith, (booked_fits (s - 1)).used_fits))
      d.1

  -- a redraw names the serial of one of the book's entries
  pub named_fits : (s : ℕ) → (redraw ws b).named ≡ some s → s < 2 ^ 32
  unfolding redraw redraw_of
  named_fits s =
      by-test (λ (o : Option ℕ). o ≡ some s → s < 2 ^ 32) (ends_by 17 (redraw ws b).outcome)
      (λ _ q. let f = lowest_first ws (booked ws b) blank s q in omega (arith, f.named, (booked_fits f.index).serial_fits))
      (λ _ q. let z : ◌≡◌ {A = ℕ} 0 1 = cc in absurd (omega arith))
