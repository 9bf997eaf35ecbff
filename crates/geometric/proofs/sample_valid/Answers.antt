-- `geometric::sample_valid` meets its contract. Assumes nothing.
use Rattle.std.proofs.Common.{◌≡◌, true, ◌∙◌}
use lib.Ieee.{binary64, of_bits, round, lt}
use lib.Ieee.Fits.{sub-fits}
use Rattle.words.specs.Words.{ratio}
use Rattle.search.specs.Squares.{half, squares}
use Rattle.geometric.specs.Geometric.{is_large, q_of, is_never, geometric_reading, is_too_rare}
use Rattle.search.proofs.Edge.{not_too_rare, too_rare, quarter_left}
use Rattle.geometric.proofs.GeometricLaws.{search_given}
use Rattle.geometric.proofs.sample_valid.Goals as goal

-- p is large
pub sample_trivial-requires : goal.sample_trivial-requires
unfolding is_large of_bits round
sample_trivial-requires c = c.if-p.true

pub returns-then-p : goal.returns-then-p
unfolding geometric_reading is_too_rare is_large of_bits round
returns-then-p c = c.sample_trivial.ensures ∙ simp c.if-p.true

pub returns-then-q : goal.returns-then-q
unfolding geometric_reading is_too_rare is_large is_never q_of of_bits round
returns-then-q c = simp (c.if-p.false, c.if-q.true)

-- q is above the edge where the third test says so, and then 31 squarings leave it above 0.5
pub returns-then-q-2 : goal.returns-then-q-2
unfolding is_too_rare is_large is_never q_of of_bits round
returns-then-q-2 c =
    let p = c.args.p in
    let rare : lt half (squares (q_of p)).pi ≡ true = too_rare (q_of p) (sub-fits binary64 (ratio 1 1) p) c.if-q-2.true in
    simp (c.if-p.false, c.if-q.false, rare)

-- else it is in the range of `square`
pub square-requires : goal.square-requires
unfolding is_large q_of of_bits round
square-requires c = (c.if-q-2.false, quarter_left c.args.p c.if-p.false)

pub returns : goal.returns
unfolding is_large is_never q_of of_bits round
returns c =
    let p = c.args.p in
    let low = not_too_rare (q_of p) c.if-q-2.false (quarter_left p c.if-p.false) in
    search_given p _ c.if-p.false c.if-q.false low _ _ _ c.square.ensures _ c.sample_search.ensures
