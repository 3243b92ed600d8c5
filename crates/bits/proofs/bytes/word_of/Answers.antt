-- The answers to the goals of `bits::bytes::word_of`. Assumes nothing.
use Rattle.std.proofs.Common.{arith}
use Rattle.bits.specs.Bytes.{bytes}
use Rattle.bits.proofs.bytes.word_of.Goals as goal

pub returns : goal.returns
unfolding bytes
returns c = omega (arith, c.from_be_bytes.ensures)
