-- `bytes_le::all_zero` meets its contract: what is left to test from here tells the whole. Assumes nothing.
use Rattle.std.proofs.Common.{rules, sym, ◌∙◌}
use Rattle.bytes_le.proofs.Zeros.{zero_yes, zero_no, zero_all}
use Rattle.bytes_le.proofs.all_zero.Goals as goal

pub returns-then-byte-ne0 : goal.returns-then-byte-ne0
returns-then-byte-ne0 c = sym (zero_no _ c.loop-byte.byte-index (search rules) (search rules)) ∙ c.loop-byte.invariant

pub loop-byte-preserved : goal.loop-byte-preserved
loop-byte-preserved c = sym (zero_yes _ c.loop-byte.byte-index (search rules) (search rules)) ∙ c.loop-byte.invariant

pub returns : goal.returns
returns c = sym (zero_all _ c.loop-byte.byte-index (search rules)) ∙ c.loop-byte.invariant
