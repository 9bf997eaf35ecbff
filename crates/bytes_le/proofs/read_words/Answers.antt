-- `bytes_le::read_words` meets its contract: what is left to read from here leaves all the words. Assumes nothing.
use Rattle.std.proofs.Common.{rules, ◌∙◌}
use Rattle.bytes_le.proofs.Numbers.{words_turn, words_done}
use Rattle.bytes_le.proofs.read_words.Goals as goal

pub loop-i-preserved : goal.loop-i-preserved
loop-i-preserved c =
    words_turn c.loop-i.tape c.args.bytes.now c.args.k c.args.at c.loop-i.i c.read_le.result (search rules) c.read_le.ensures ∙ c.loop-i.invariant

pub returns : goal.returns
returns c = words_done c.loop-i.tape _ c.args.bytes.now c.args.k c.args.at c.loop-i.i (search rules) (search rules) c.loop-i.invariant
