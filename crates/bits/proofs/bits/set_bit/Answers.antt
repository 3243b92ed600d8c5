-- The answers to the goals of `bits::bits::set_bit`. Assumes nothing.
use Rattle.bits.proofs.BitLaws.{set-weight}
use Rattle.bits.proofs.bits.set_bit.Goals as goal

pub returns : goal.returns
returns c = rw c.weight_of.ensures (set-weight _ _)
