-- The answers to the goals of `word::pair::join`. Assumes nothing.
use Rattle.word.proofs.PairLaws.{beside}
use Rattle.word.specs.Pair.{pair}
use Rattle.word.proofs.pair.join.Goals as goal

pub returns : goal.returns
unfolding pair
returns c = rw (c.from.ensures, c.from-2.ensures) (beside 16 16 _ _ c.ranges.high.fits c.ranges.low.fits)
