-- Demand 2 for draws, proved: of any drawing that keeps its kind's laws, and so of each. Assumes nothing.
use mathlib.Core.Path.{sym, ◌∙◌}
use mathlib.Core.List.{List}
use Prim.Native.Nat.{ℕ}
use Rattle.words.specs.Paper.{Answer}
use Rattle.words.specs.Draw.{Drawing, DrawAllows}
use Rattle.words.proofs.Drawing.{accepted_exactly}
use Rattle.words.proofs.Exactly.{along}
use Rattle.words.proofs.Lawful.{Lawful, lawful_exactly}
use Rattle.words.proofs.OneAnswer.{one_answer}
use Rattle.poisson.specs.Poisson.{poisson}
use Rattle.poisson.proofs.Laws.{poisson_lawful}
use Rattle.geometric.specs.Geometric.{geometric}
use Rattle.geometric.proofs.GeometricLaws.{geometric_lawful}
use Rattle.draws.specs.Request.{drawing, Supported}
use Rattle.draws.specs.Demand2.{Demanded, Demand2}
use Rattle.draws.proofs.Laws.{lawful}

demanded : (d : Drawing ℕ) (S : ℕ → Type 0) → Lawful d S → (ws : List ℕ) (a : Answer) → DrawAllows d ws a → Demanded d S ws a
demanded d S l ws a e =
    record {
      draws = λ c u. along e (accepted_exactly d ws c u);
      refuses = λ n. along e (lawful_exactly d S l ws n);
      support = λ c u x. l.support ws c u (sym e ∙ x);
      one = λ b f. one_answer b a (f ∙ sym e);
    }

pub demand_2 : Demand2
demand_2 =
    record {
      requests = λ r. demanded (drawing r) (Supported r) (lawful r);
      thresholds = λ T. demanded (poisson T) (λ c. Unit) (poisson_lawful T);
      probabilities = λ p. demanded (geometric p) (λ c. Unit) (geometric_lawful p);
    }
