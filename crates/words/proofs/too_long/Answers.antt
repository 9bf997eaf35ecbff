-- `words::too_long` meets its contract. Assumes nothing.
use Rattle.words.specs.Words.{too_long}
use Rattle.std.proofs.Common.{rules}
use Rattle.words.proofs.too_long.Goals as goal

pub returns : goal.returns
unfolding too_long
returns c = search rules
