-- `geometric::sample_trivial` meets its contract. Assumes nothing.
use Rattle.std.proofs.Common.{◌≡◌, true, false, Some, sym, subst, ◌∙◌, ◌+◌, ℕ, List, cond, drop, Float, arith}
use lib.Dec.{T, not_T}
use lib.Ieee.{le, lt}
use lib.Ieee.Bits.{is_true, is_false}
use Rattle.std.specs.Float.{NotNan}
use Rattle.std.proofs.lemmas.Float.{le_right, le_of_not-lt, lt_of_le_of_lt, lt_irrefl}
use Rattle.words.specs.Words.{fraction_of}
use Rattle.words.specs.Inner.{word_at}
use Rattle.words.specs.Rule.{done, more, read, reading}
use Rattle.words.proofs.Ended.{ended}
use Rattle.words.proofs.Fractions.{fraction_low}
use Rattle.words.proofs.Reading.{read_done, read_at, read_end}
use Rattle.words.proofs.Tape.{word_there}
use Rattle.geometric.specs.Geometric.{is_large, trivial_rule}
use Rattle.geometric.proofs.sample_trivial.Goals as goal

-- a turn has read its fraction, and stands before its judgement
turn : (p f : Float) (ws : List ℕ) (n w : ℕ) → reading (trivial_rule p) ws ≡ read (trivial_rule p) (drop n ws) (more n) n → word_at ws n ≡ Some w
    → f ≡ fraction_of w
    → reading (trivial_rule p) ws ≡ read (trivial_rule p) (drop (n + 1) ws) (cond (le f p) (done n) (more (n + 1))) (n + 1)
turn p f ws n w so_far there is = so_far ∙ read_at (trivial_rule p) ws n w n n there ∙ simp (← is)

-- a fraction above p is not at most p
above : (f p : Float) → lt p f ≡ true → le f p ≡ false
above f p h = is_false (le f p) (not_T (le f p) (λ k. lt_irrefl f (lt_of_le_of_lt f p f k (subst T (sym h) tt))))

-- and one that isn't above a large p is: both are numbers
not_above : (f p : Float) (w : ℕ) → is_large p ≡ true → f ≡ fraction_of w → lt p f ≡ false → le f p ≡ true
unfolding is_large
not_above f p w large is h =
    let number : NotNan f = subst NotNan (sym is) (le_right _ _ (fraction_low w)) in
    is_true (le f p) (le_of_not-lt p f (le_right _ p (subst T (sym large) tt)) number (rw h tt))

pub returns-in_err-ok_or : goal.returns-in_err-ok_or
returns-in_err-ok_or c =
    let l = c.loop-failures in
    let a = c.args in
    let e = sym c.word_at.ensures ∙ c.in_err-ok_or.ensures.ok_part in
    ended _ _ _ c.in_err-ok_or.ensures.value c.from_residual.ensures.1
    ∙ sym (l.invariant.1 ∙ read_end (trivial_rule a.p) a.tape.now l.failures l.failures l.failures e)

pub loop-failures-smaller : goal.loop-failures-smaller
loop-failures-smaller c =
    let h = (word_there c.args.tape.now c.loop-failures.failures _ (sym c.word_at.ensures ∙ c.in_ok-ok_or.ensures.ok_part)).0 in
    omega arith

pub loop-failures-preserved : goal.loop-failures-preserved
loop-failures-preserved c =
    let l = c.loop-failures in
    let a = c.args in
    let there = sym c.word_at.ensures ∙ c.in_ok-ok_or.ensures.ok_part in
    let h = (word_there a.tape.now l.failures _ there).0 in
    (omega arith, turn a.p _ a.tape.now l.failures _ l.invariant.1 there c.fraction.ensures ∙ simp (above _ a.p c.if-fraction-p.true))

pub returns : goal.returns
returns c =
    let l = c.loop-failures in
    let a = c.args in
    let there = sym c.word_at.ensures ∙ c.in_ok-ok_or.ensures.ok_part in
    sym (turn a.p _ a.tape.now l.failures _ l.invariant.1 there c.fraction.ensures
    ∙ simp (not_above _ a.p _ c.requires c.fraction.ensures c.if-fraction-p.false, read_done (trivial_rule a.p)))
