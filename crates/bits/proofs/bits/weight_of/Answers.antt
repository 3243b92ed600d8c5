-- The answers to the goals of `bits::bits::weight_of`. Assumes nothing.
use Rattle.bits.proofs.BitLaws.{weight-shifted}
use Rattle.bits.proofs.bits.weight_of.Goals as goal

pub returns : goal.returns
returns c = weight-shifted c.args.n
