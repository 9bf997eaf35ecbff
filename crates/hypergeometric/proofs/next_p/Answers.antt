-- `hypergeometric::next_p` meets its contract: the float steps are the definition's, and neither cast loses anything. Assumes nothing.
use Rattle.hypergeometric.specs.Inversion.{next_p}
use Rattle.hypergeometric.proofs.next_p.Goals as goal

pub returns : goal.returns
unfolding next_p
returns c = simp (c.whole-2.ensures, c.whole.ensures)
