-- `standard_geometric::sample` meets its contract: a first word that isn't 0 ends the draw, and after one that is 0 the draw reads on with
-- 64 zeros. Assumes nothing.
use Rattle.std.proofs.Common.{◌≡◌, Some, List, ℕ, drop, zero-add, false, sym, ap, ◌∙◌, arith}
use borrow.Author.Tests.{eq-eqb, ne_eqb}
use lib.Count.{count_leading_zeros, leading_of_zero}
use Rattle.words.specs.Words.{too_long}
use Rattle.words.specs.Inner.{word_at}
use Rattle.words.specs.Rule.{read, reading}
use Rattle.words.specs.Draw.{shorts, draw}
use Rattle.words.proofs.Tape.{within_limit}
use Rattle.words.proofs.Ended.{ended}
use Rattle.words.proofs.Reading.{read_done, read_at, read_end}
use Rattle.words.proofs.Short.{ends_same}
use Rattle.standard_geometric.specs.Standard.{standard_rule, add_zeros, standard_geometric}
use Rattle.standard_geometric.proofs.sample.Goals as goal

module _ (ws : List ℕ) (short : too_long ws ≡ false) where
  -- where the tape isn't too long, it is read
  is_read : draw standard_geometric ws ≡ reading standard_rule ws
  unfolding draw standard_geometric
  is_read = simp short (ends_same shorts (reading standard_rule ws))

  -- after the first word, where it is there
  begun : (w : ℕ) → word_at ws 0 ≡ Some w → draw standard_geometric ws ≡ read standard_rule (drop 1 ws) (add_zeros 0 w) 1
  begun w there = is_read ∙ read_at standard_rule ws 0 w 0 0 there

pub returns-then-too_long : goal.returns-then-too_long
unfolding draw standard_geometric
returns-then-too_long c = simp (sym c.if-too_long.ensures)

pub returns-in_err-w : goal.returns-in_err-w
returns-in_err-w c =
    let ws = c.args.tape.now in
    let within = sym c.if-too_long.ensures in
    ended _ _ _ c.in_err-w.ensures.value c.from_residual.ensures.1
    ∙ sym (is_read ws within ∙ read_end standard_rule ws 0 0 0 (sym c.word_at.ensures ∙ c.in_err-w.ensures.ok_part))

pub sample_after_zero-requires : goal.sample_after_zero-requires
sample_after_zero-requires c = within_limit _ (sym c.if-too_long.ensures)

pub returns-then-w-eq0 : goal.returns-then-w-eq0
returns-then-w-eq0 c =
    let w = c.in_ok-w.w in
    let z : w ≡ 0 = omega arith in
    let n : count_leading_zeros 64 w ≡ 64 = ap (count_leading_zeros 64) z ∙ leading_of_zero 64 in
    c.sample_after_zero.ensures
    ∙ sym (begun c.args.tape.now (sym c.if-too_long.ensures) w (sym c.word_at.ensures ∙ c.in_ok-w.ensures.ok_part) ∙ simp (eq-eqb w 0 z, n))

pub returns : goal.returns
returns c =
    let w = c.in_ok-w.w in
    sym (begun c.args.tape.now (sym c.if-too_long.ensures) w (sym c.word_at.ensures ∙ c.in_ok-w.ensures.ok_part)
    ∙ simp (ne_eqb w 0 (λ e. omega arith), zero-add, read_done standard_rule, ← c.from-count.ensures))
