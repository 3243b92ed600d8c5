-- The answers to the goals of `bits::bits::reset_bit`. Assumes nothing.
use Rattle.bits.proofs.BitLaws.{reset-weight}
use Rattle.bits.proofs.bits.reset_bit.Goals as goal

pub returns : goal.returns
returns c = rw c.weight_of.ensures (reset-weight _ _ c.ranges.word.fits)
