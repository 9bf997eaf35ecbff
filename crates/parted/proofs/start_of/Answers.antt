-- `parted::start_of` meets its contract: the words that are left from here lead to the same place. Assumes nothing.
use Rattle.std.proofs.Common.{rules, arith, ◌≡◌, ◌+◌, ◌-◌, ◌≤◌, List, ℕ, length, drop, sym, ap, ◌∙◌}
use Rattle.std.proofs.lemmas.Slice.{between_to_end}
use lib.ListN.{length-drop}
use lib.Seq.{drop-drop}
use Rattle.numerals.specs.Split.{past}
use Rattle.parted.specs.Parts.{space, past_words}
use Rattle.parted.proofs.Parting.{words_turn, words_end}
use Rattle.parted.proofs.start_of.Goals as goal

-- past the next word of what is left from the place
step : (l part : List ℕ) (at r : ℕ) → part ≡ drop at l → at ≤ length l → (r ≤ length part) × (drop r part ≡ past space part)
    → (at + r ≤ length l) × (drop (at + r) l ≡ past space (drop at l))
step l part at r e h n =
    let m : (r ≤ length (drop at l)) × (drop r (drop at l) ≡ past space (drop at l)) = rw e at n in
    (omega (arith, m.0, length-drop at l), sym (drop-drop r at l) ∙ m.1)

pub loop-preserved : goal.loop-preserved
loop-preserved c =
    let next = step c.args.text.now _ c.loop.at c.second_at-at.result (between_to_end c.args.text.now c.loop.at _ (omega arith)) c.loop.invariant.0 c.second_at-at.ensures in
    (next.0, ap (past_words (c.args.k - (c.loop.counter + 1))) next.1 ∙ sym (words_turn c.args.k c.loop.counter (drop c.loop.at c.args.text.now) (search rules)) ∙ c.loop.invariant.1)

pub returns : goal.returns
returns c = (c.loop.invariant.0, sym (words_end c.args.k c.loop.counter (drop c.loop.at c.args.text.now) (search rules)) ∙ c.loop.invariant.1)
