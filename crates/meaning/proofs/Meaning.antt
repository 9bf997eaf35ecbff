-- RULES, 'What a count means': the statement, proved. Assumes nothing.
use native.Mathlib.Omega.{arith}
use Rattle.ways.proofs.AllWays.{all_ways}
use Rattle.hypergeometric.specs.Reduction.{reduction}
use Rattle.hypergeometric.specs.SetUp.{set_up}
use Rattle.hypergeometric.proofs.Reducing.{n1+n2, k≤n2}
use Rattle.meaning.specs.Meaning.{Meant}
use Rattle.meaning.proofs.Steps.{neighbouring, beginning, beginning_else}
use Rattle.meaning.proofs.Carrying.{ways_carried, samples_carried}

-- of every tray that the rules reduce, the counts are as likely as they have ways, and the inversion's numbers are theirs
pub meant : Meant
unfolding set_up
meant N K n hK hn =
    let r = reduction N K n in
    let e = n1+n2 N K n hK hn in
    let l = k≤n2 N K n hK hn in
    record {
      carried = ways_carried N K n hK hn;
      samples = samples_carried N K n hK hn;
      all = rw e at (all_ways r.n1 r.n2 r.k);
      neighbours = λ x h i. neighbouring r.n1 r.n2 r.k x i l;
      first = λ h. beginning N r.n1 r.n2 r.k e l;
      first_else = λ h. beginning_else N r.n1 r.n2 r.k e (omega arith);
    }
