-- `strike`: the entries from there on are wiped, of bytes that were lent. Assumes nothing.
use Rattle.std.proofs.Common.{rules, arith}
use Rattle.opening.proofs.Opening.{sound_opening}
use Rattle.book.proofs.Striking.{struck_left}
use Rattle.book.proofs.strike.Goals as goal

pub returns : goal.returns
returns c =
    struck_left _ _ _ _ (sound_opening _ _ _ _ c.in_ok-standing.ensures) (λ i. search rules) (omega arith) _ c.offset_of-at.ensures _ c.wipe.ensures
