-- `service::strike_standing` meets its contract, way by way. Assumes nothing.
use Rattle.service.proofs.StrikingFrom.{many_met, standing_met, before_met, other_met}
use Rattle.service.proofs.strike_standing.Goals as goal

pub returns-then-entries-j : goal.returns-then-entries-j
returns-then-entries-j c =
    rw (c.unchanged.ensures.0, c.unchanged.ensures.1) (many_met _ _ _ _ _ _ _ _ c.requires c.if-entries-j.true c.struck_line.ensures)

pub returns-then-standing-entries : goal.returns-then-standing-entries
returns-then-standing-entries c = standing_met _ _ _ _ _ _ _ _ c.requires _ _ c.if-standing-entries.true c.strike.ensures

pub returns-then-standing-entries-2 : goal.returns-then-standing-entries-2
returns-then-standing-entries-2 c =
    rw (c.unchanged-then-standing-entries-2.ensures.0, c.unchanged-then-standing-entries-2.ensures.1)
    (before_met _ _ _ _ _ _ _ _ c.requires c.if-entries-j.false c.if-standing-entries.false c.if-standing-entries-2.true
    c.struck_line-then-standing-entries-2.ensures)

pub returns : goal.returns
returns c =
    rw (c.unchanged-2.ensures.0, c.unchanged-2.ensures.1)
    (other_met _ _ _ _ _ _ _ _ c.requires c.if-entries-j.false c.if-standing-entries.false c.if-standing-entries-2.false c.kept_line.ensures)
