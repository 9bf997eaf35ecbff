-- `words::is_short` meets its contract: the list, number by number, and no other number. Assumes nothing.
use Rattle.std.proofs.Common.{rules, sym}
use Rattle.words.specs.Draw.{shorts}
use Rattle.words.specs.Inner.{is_on}
use Rattle.words.proofs.Short.{not_on}
use Rattle.words.proofs.is_short.Goals as goal

pub returns-in-10 : goal.returns-in-10
unfolding is_on
returns-in-10 c = rw c.in-10.is

pub returns-in_default : goal.returns-in_default
returns-in_default c = sym (not_on c.args.number shorts (search rules))
