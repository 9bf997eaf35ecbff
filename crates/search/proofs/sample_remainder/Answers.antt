-- `search::sample_remainder` meets its contract. Assumes nothing.
use Rattle.std.proofs.Common.{ℕ, ◌≡◌, ◌+◌, ◌%◌, ◌^◌, List, Some, drop, Float, sym, ◌∙◌, arith}
use lib.Ieee.{of_bits, round}
use Rattle.words.specs.Inner.{word_at}
use Rattle.words.specs.Rule.{more, read}
use Rattle.words.proofs.Tape.{word_there}
use Rattle.words.proofs.Ended.{ended}
use Rattle.words.proofs.Reading.{read_done, read_at, read_end}
use Rattle.search.specs.Search.{search_rule, searching, remainder_word, acceptance}
use Rattle.search.proofs.Spans.{shifted, masked}
use Rattle.search.proofs.sample_remainder.Goals as goal

-- A try reads two words, and stands before its judgement.
try : (q : Float) (span : ℕ) (pi : Float) (ws : List ℕ) (i d w v : ℕ) → word_at ws i ≡ Some w → word_at ws (i + 1) ≡ Some v
    → read (search_rule q span pi) (drop i ws) (more (remainder_word d)) i
    ≡ read (search_rule q span pi) (drop (i + 2) ws) (searching q span pi (acceptance d (w % span)) v) (i + 2)
try q span pi ws i d w v first second =
    let r = search_rule q span pi in
    let two : i + 1 + 1 ≡ i + 2 = omega arith in
    read_at r ws i w (remainder_word d) i first ∙ read_at r ws (i + 1) v (acceptance d (w % span)) (i + 1) second ∙ rw two

pub returns-in_err-w : goal.returns-in_err-w
returns-in_err-w c =
    let l = c.loop-w in
    let a = c.args in
    let s = a.squared in
    let e = sym c.word_at.ensures ∙ c.in_err-w.ensures.ok_part in
    ended _ _ _ c.in_err-w.ensures.value c.from_residual.ensures.1
    ∙ sym (l.invariant ∙ read_end (search_rule s.q (2 ^ s.k) s.pi) a.tape.now l.i (remainder_word a.d) l.i e)

pub overflow_add-i : goal.overflow_add-i
overflow_add-i c = let h = (word_there c.args.tape.now c.loop-w.i _ (sym c.word_at.ensures ∙ c.in_ok-w.ensures.ok_part)).0 in omega arith

pub returns-in_err-v : goal.returns-in_err-v
returns-in_err-v c =
    let l = c.loop-w in
    let a = c.args in
    let s = a.squared in
    let w = c.in_ok-w.w in
    let r = search_rule s.q (2 ^ s.k) s.pi in
    let first = sym c.word_at.ensures ∙ c.in_ok-w.ensures.ok_part in
    let e = sym c.word_at-in-loop-w.ensures ∙ c.in_err-v.ensures.ok_part in
    ended _ _ _ c.in_err-v.ensures.value c.from_residual-in_err-v.ensures.1
    ∙ sym (l.invariant ∙ read_at r a.tape.now l.i w (remainder_word a.d) l.i first
    ∙ read_end r a.tape.now (l.i + 1) (acceptance a.d (w % 2 ^ s.k)) (l.i + 1) e)

pub overflow_add-i-in-loop-w : goal.overflow_add-i-in-loop-w
overflow_add-i-in-loop-w c =
    let h = (word_there c.args.tape.now (c.loop-w.i + 1) _ (sym c.word_at-in-loop-w.ensures ∙ c.in_ok-v.ensures.ok_part)).0 in
    omega arith

pub loop-w-smaller : goal.loop-w-smaller
loop-w-smaller c =
    let h = (word_there c.args.tape.now (c.loop-w.i + 1) _ (sym c.word_at-in-loop-w.ensures ∙ c.in_ok-v.ensures.ok_part)).0 in
    omega arith

pub loop-w-preserved : goal.loop-w-preserved
unfolding of_bits round
loop-w-preserved c =
    let l = c.loop-w in
    let a = c.args in
    let s = a.squared in
    let w = c.in_ok-w.w in
    let first = sym c.word_at.ensures ∙ c.in_ok-w.ensures.ok_part in
    let second = sym c.word_at-in-loop-w.ensures ∙ c.in_ok-v.ensures.ok_part in
    l.invariant ∙ try s.q (2 ^ s.k) s.pi a.tape.now l.i a.d w c.in_ok-v.v first second
    ∙ simp (← c.fraction.ensures, ← masked s.k s.most w, ← c.power.ensures, c.if-fraction-power.false)

pub returns : goal.returns
unfolding of_bits round
returns c =
    let l = c.loop-w in
    let a = c.args in
    let s = a.squared in
    let w = c.in_ok-w.w in
    let first = sym c.word_at.ensures ∙ c.in_ok-w.ensures.ok_part in
    let second = sym c.word_at-in-loop-w.ensures ∙ c.in_ok-v.ensures.ok_part in
    sym (l.invariant ∙ try s.q (2 ^ s.k) s.pi a.tape.now l.i a.d w c.in_ok-v.v first second
    ∙ simp (← c.fraction.ensures, ← masked s.k s.most w, ← c.power.ensures, c.if-fraction-power.true, read_done (search_rule s.q (2 ^ s.k) s.pi))
    (rw (shifted s.k s.most)))
