-- `deliver`: the entry of a serial below next answers a copy. Assumes nothing.
use Rattle.std.proofs.Common.{rules, arith}
use Rattle.opening.proofs.Opening.{sound_opening}
use Rattle.book.proofs.Delivering.{copy_answers}
use Rattle.book.proofs.deliver.Goals as goal

pub returns-then-serial-next : goal.returns-then-serial-next
returns-then-serial-next c =
    rw (← c.from-serial.ensures)
    (copy_answers _ _ _ _ _ (sound_opening _ _ _ _ c.in_ok-standing.ensures) (λ i. search rules) (λ z. omega arith) (omega arith)
    _ c.offset_of-at.ensures _ c.entry_at.ensures _ c.copy_of.ensures)
