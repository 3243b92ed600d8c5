-- The answers to the goals of `fixed_muldiv::quotients::divide_long`. Assumes nothing.
use Rattle.word.specs.Pair.{high_word}
use Rattle.fixed_muldiv.proofs.QuotientLaws.{long-divided-is}
use Rattle.fixed_muldiv.proofs.quotients.divide_long.Goals as goal

pub returns : goal.returns
unfolding high_word
returns c = long-divided-is c.split.ensures c.split-y.ensures (rw c.high.ensures at c.split-high.ensures) c.division.ensures
