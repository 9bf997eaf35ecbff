-- `service::strike_from` meets its contract: a strike of 0 leaves the book as it was, and says how many entries stand. Assumes nothing.
use Rattle.service.proofs.StrikingFrom.{zero_again, accepted_met, refused_met}
use Rattle.service.proofs.strike_from.Goals as goal

pub strike_standing-requires : goal.strike_standing-requires
strike_standing-requires c = zero_again _ _ _ _ c.strike.ensures _ c.in-Ok.is

pub returns-in-Ok : goal.returns-in-Ok
returns-in-Ok c = accepted_met _ _ _ c.strike.result c.strike.ensures _ _ _ _ _ _ _ c.strike_standing.ensures

pub returns-in-Err : goal.returns-in-Err
returns-in-Err c =
    rw (c.unchanged.ensures.0, c.unchanged.ensures.1) (refused_met _ _ _ _ c.strike.ensures _ _ _ _ _ _ c.in-Err.is c.struck_line.ensures)
