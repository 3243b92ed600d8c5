-- The answers to the goals of `word::pair::low`. Assumes nothing.
use Rattle.std.proofs.Common.{refl}
use Rattle.word.specs.Pair.{low_word}
use Rattle.word.proofs.pair.low.Goals as goal

pub returns : goal.returns
unfolding low_word
returns c = refl
