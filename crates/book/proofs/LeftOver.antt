-- What a strike leaves can be opened, and holds the entries that it left. Assumes nothing.
use mathlib.Core.Path.{◌≡◌, sym, ap, ◌∙◌}
use mathlib.Core.List.{List, ◌++◌}
use Prim.Native.Nat.{ℕ, ◌-◌, ◌≤◌}
use native.Mathlib.Omega.{arith}
use lib.ListN.{length, drop, take-append-drop}
use Rattle.words.specs.Refusals.{NoneHolds}
use Rattle.bytes_le.specs.Zeros.{wiped}
use Rattle.bytes_le.proofs.Numbers.{Bytes}
use Rattle.entry.specs.declared.Entry.{Entry}
use Rattle.layout.specs.Book.{length_all, used_all, encode}
use Rattle.layout.proofs.Decoding.{written, decode_encodes, length_encode, encode_decodes}
use Rattle.layout.proofs.Changing.{wiped_encode}
use Rattle.layout.proofs.Positions.{length_all_append, used_all_append, chain_left}
use Rattle.opening.specs.Calls.{Call, booked, limits}
use Rattle.opening.proofs.Opening.{open_decodes, open_book, open_tape, opens}
use Rattle.book.specs.Strike.{left_by, strike}
use Rattle.book.proofs.Striking.{strike_done}

module _ (ws b : List ℕ) (j : ℕ) (by : Bytes b) (h : NoneHolds (limits ws b)) (le : j ≤ length (booked ws b)) where
  abbrev es : List Entry
  es = booked ws b

  abbrev xs : List Entry
  xs = left_by j es

  abbrev ys : List Entry
  ys = drop (length es - j) es

  whole : xs ++ ys ≡ es
  whole = take-append-drop (length es - j) es

  -- its bytes are those of the entries left
  struck_bytes : (strike ws b j).book ≡ encode (length b) xs
  struck_bytes =
      let wr = written (length ws) b es by (open_decodes (length ws) b h) in
      let bytes : b ≡ encode (length b) es = decode_encodes (length ws) b es by (open_decodes (length ws) b h) in
      ap (λ (x : Call ℕ). x.book) (sym (strike_done ws b j h le))
      ∙ ap (wiped (length_all xs) (length_all es)) bytes
      ∙ ap (λ (l : List Entry). wiped (length_all xs) (length_all l) (encode (length b) l)) (sym whole)
      ∙ wiped_encode (length b) xs ys (rw whole wr.room)

  pub strike_opens : NoneHolds (limits ws (strike ws b j).book) × (booked ws (strike ws b j).book ≡ left_by j (booked ws b))
  strike_opens =
      let wr = written (length ws) b es by (open_decodes (length ws) b h) in
      let all = rw (← whole) at wr.chain in
      let room : length_all xs ≤ length b = omega (arith, wr.room, length_all_append xs ys, ap length_all whole) in
      let tape : used_all xs ≤ length ws = omega (arith, wr.tape, used_all_append xs ys, ap used_all whole) in
      rw struck_bytes
      (opens ws (encode (length b) xs) xs (open_tape ws b h) (rw (length_encode (length b) xs room) (open_book (length ws) b h))
      (encode_decodes (length ws) (length b) xs (chain_left xs ys 1 0 all) room tape))
