-- The words that are left from here lead to the same place.
use Rattle.std.proofs.Common.{◌≡◌, ◌≤◌, ◌-◌, length, drop}
use Rattle.parted.specs.Parts.{past_words}
use Rattle.parted.proofs.start_of.Given as goal

abbrev pub invariant-loop : goal.invariant-loop
invariant-loop l = (l.at ≤ length l.text) × (past_words (l.k - l.counter) (drop l.at l.text) ≡ past_words l.k l.text)
