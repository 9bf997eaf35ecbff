-- `bytes_le::read_le` meets its contract: each turn takes one byte more, from the highest down. Assumes nothing.
use Rattle.std.proofs.Common.{rules, ℕ, List, [], ◌∷◌, ◌++◌, ◌≡◌, ◌*◌, ◌+◌, ◌-◌, ◌≤◌, length, take, drop, arith, ap, ◌∙◌}
use Rattle.bytes_le.specs.LittleEndian.{spelled}
use Rattle.bytes_le.proofs.Numbers.{Bytes, all_to_come, last_taken, read_turn, read_room}
use Rattle.bytes_le.proofs.read_le.Goals as goal

-- a turn
turn : (r l s : List ℕ) (at k b n x : ℕ) → length r ≤ k → r ≡ take (length r) (drop at l) → n ≡ spelled (k - length r) (drop (at + length r) l)
    → r ≡ s ++ b ∷ [] → x ≡ b → (length s ≤ k) × (s ≡ take (length s) (drop at l)) × (n * 256 + x ≡ spelled (k - length s) (drop (at + length s) l))
turn r l s at k b n x h e so f is =
    let g = last_taken r l s at b e f in
    let i : length r - 1 ≡ length s = omega arith in
    let t = read_turn l k at (length r) n (omega arith) h so in
    (omega arith, g.2, ap (λ (y : ℕ). n * 256 + y) (is ∙ g.1) ∙ (rw i at t))

pub loop-byte-init : goal.loop-byte-init
loop-byte-init c =
    let g = all_to_come c.into_iter-byte-iterator.result.iter.rest.now c.args.bytes.now c.args.at c.args.width c.requires.1 (search rules) in
    (omega arith, g.1, g.2)

pub overflow_mul-number : goal.overflow_mul-number
overflow_mul-number c =
    let by : Bytes c.args.bytes.now = λ j. (c.type_inv.bytes j).fits in
    let g = last_taken _ c.args.bytes.now _ c.args.at _ c.loop-byte.invariant.1 c.in-Some.ensures.steps in
    omega (arith, read_room c.args.bytes.now c.args.width c.args.at (length c.loop-byte.byte-iterator.iter.rest.now) by (omega arith) (search rules) (search rules))

pub overflow_add-number : goal.overflow_add-number
overflow_add-number c =
    let by : Bytes c.args.bytes.now = λ j. (c.type_inv.bytes j).fits in
    let g = last_taken _ c.args.bytes.now _ c.args.at _ c.loop-byte.invariant.1 c.in-Some.ensures.steps in
    omega (
      arith,
      c.from.ensures,
      by (c.args.at + length c.next.new.self.iter.rest.now),
      read_room c.args.bytes.now c.args.width c.args.at (length c.loop-byte.byte-iterator.iter.rest.now) by (omega arith) (search rules) (search rules),
    )

pub loop-byte-preserved : goal.loop-byte-preserved
loop-byte-preserved c =
    let i = c.loop-byte.invariant in
    turn _ c.args.bytes.now _ c.args.at c.args.width _ _ _ i.0 i.1 i.2 c.in-Some.ensures.steps c.from.ensures
