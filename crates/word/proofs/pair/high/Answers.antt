-- The answers to the goals of `word::pair::high`. Assumes nothing.
use Rattle.std.proofs.Common.{refl}
use Rattle.word.specs.Pair.{high_word}
use Rattle.word.proofs.pair.high.Goals as goal

pub returns : goal.returns
unfolding high_word
returns c = refl
