-- `names::put_name` meets its contract: the word of the refusal's number, and the byte right after it. Assumes nothing.
use Rattle.std.proofs.Common.{rules, arith, ◌≡◌, ◌≤◌, length, ap, ◌∙◌}
use Rattle.words.specs.Paper.{number_of}
use Rattle.writing.proofs.Writing.{written_next}
use Rattle.names.specs.Names.{name_of}
use Rattle.names.proofs.Names.{name_word, name_short}
use Rattle.names.proofs.put_name.Goals as goal
use Rattle.names.proofs.put_name.Goals.{After-word}

-- the word of its number is its name
its_name : (c : After-word) → c.word.result.now ≡ name_of (number_of c.args.refusal)
its_name c = c.word.ensures ∙ name_word c.from.result ∙ ap name_of c.from.ensures

short : (c : After-word) → length c.word.result.now ≤ 19
short c = rw (its_name c) (name_short (number_of c.args.refusal))

pub put_text-next-requires : goal.put_text-next-requires
put_text-next-requires c = omega (arith, short ((goal.at.put_text-next-requires c).After-word))

pub bounds-out-next : goal.bounds-out-next
bounds-out-next c = omega (arith, short ((goal.at.bounds-out-next c).After-word))

pub returns : goal.returns
returns c =
    let here = (goal.at.returns c).After-word in
    let few = short here in
    written_next _ _ _ _ _ _ _ _ (rw (its_name here) at c.put_text-next.ensures) (search rules)
