-- A strike, way by way. Assumes nothing.
use mathlib.Core.Path.{◌≡◌, sym, ap, ◌∙◌}
use mathlib.Core.List.{List, [], ◌∷◌}
use Prim.Native.Nat.{ℕ, ◌-◌, ◌<◌, ◌≤◌}
use native.Mathlib.Omega.{arith}
use lib.Dec.{ltb}
use lib.ListN.{length, get_or, take}
use Rattle.std.proofs.Common.{Fits, w8}
use borrow.Author.Tests.{lt-ltb, le-ltb}
use Rattle.words.specs.Outcome.{Outcome, drawn, refused}
use Rattle.words.specs.Refusals.{Condition, ◌on◌, given, First, NoneHolds}
use Rattle.bytes_le.specs.Zeros.{wiped}
use Rattle.bytes_le.proofs.Numbers.{Bytes}
use Rattle.entry.specs.declared.Entry.{Entry}
use Rattle.layout.specs.declared.Standing.{Standing}
use Rattle.layout.specs.Book.{length_all}
use Rattle.layout.specs.Sound.{offset}
use Rattle.opening.specs.Calls.{Call, call, booked, limits}
use Rattle.opening.specs.Inner.{IsOpen, opened}
use Rattle.book.specs.Strike.{strike_refusals, left_by, striking, strike_in, strike}
use Rattle.opening.proofs.Opening.{past_limits, stopped, refused_opening, open_offset}

module _ (ws b : List ℕ) (j : ℕ) where
  abbrev es : List Entry
  es = booked ws b

  -- the condition after the limits
  abbrev own : List Condition
  own = 16 on ltb (length (booked ws b)) j ∷ []

  pub strike_stopped : (n : ℕ) → First n (limits ws b) → call (refused n) b ≡ strike ws b j
  unfolding strike strike_in strike_refusals
  strike_stopped n f = sym (ap (λ (o : Outcome ℕ). striking o b es j) (stopped ws b own (drawn (length es - j) 0) n f))

  module _ (h : NoneHolds (limits ws b)) where
    later : Call ℕ
    later = striking (given own (drawn (length es - j) 0)) b es j

    past : strike ws b j ≡ later
    unfolding strike strike_in strike_refusals later
    past = ap (λ (o : Outcome ℕ). striking o b es j) (past_limits ws b own (drawn (length es - j) 0) h)

    pub strike_many : length es < j → call (refused 16) b ≡ strike ws b j
    unfolding later
    strike_many m = sym (past ∙ go)
      where
        go : later ≡ call (refused 16) b
        go = rw (lt-ltb (length es) j m)

    pub strike_done : j ≤ length es → call (drawn (length es - j) 0) (wiped (length_all (left_by j es)) (length_all es) b) ≡ strike ws b j
    unfolding later
    strike_done m = sym (past ∙ go)
      where
        go : later ≡ call (drawn (length es - j) 0) (wiped (length_all (left_by j es)) (length_all es) b)
        go = rw (le-ltb (length es) j m)

-- ---- by what the call began with

module _ (ws b : List ℕ) (j : ℕ) where
  pub strike_refused : (n : ℕ) → refused n ≡ opened ws b → call (refused n) b ≡ strike ws b j
  strike_refused n e = strike_stopped ws b j n (refused_opening ws b n e)

  module _ (st : Standing) (o : IsOpen ws b st) where
    pub strike_over : st.entries < j → call (refused 16) b ≡ strike ws b j
    strike_over m = strike_many ws b j o.0 (omega (arith, ap (λ (x : Standing). x.entries) o.1))

    -- of a book that stands as told, the entries from i on are wiped
    pub struck_left : ((i : ℕ) → Fits w8 (get_or b i 0)) → j ≤ st.entries → (i : ℕ) → i ≡ offset b (st.entries - j)
        → (c : List ℕ) → c ≡ wiped i st.end b → call (drawn (st.entries - j) 0) c ≡ strike ws b j
    struck_left fits l i ei c eb =
        let by : Bytes b = λ k. (fits k).fits in
        let en : st.entries ≡ length (booked ws b) = ap (λ (x : Standing). x.entries) (sym o.1) in
        let ee : st.end ≡ length_all (booked ws b) = ap (λ (x : Standing). x.end) (sym o.1) in
        let there : i ≡ length_all (left_by j (booked ws b)) =
        ei ∙ open_offset (length ws) b by o.0 (st.entries - j) (omega arith) ∙ ap (λ (k : ℕ). length_all (take (k - j) (booked ws b))) en in
        ap (call (drawn (st.entries - j) 0)) (eb ∙ λ k. wiped (there k) (ee k) b)
        ∙ ap (λ (k : ℕ). call (drawn (k - j) 0) (wiped (length_all (left_by j (booked ws b))) (length_all (booked ws b)) b)) en
        ∙ strike_done ws b j o.0 (omega arith)

pub ruleset strikes = (strike_refused, strike_over, struck_left)
