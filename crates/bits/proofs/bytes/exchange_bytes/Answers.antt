-- The answers to the goals of `bits::bytes::exchange_bytes`. Assumes nothing.
use Rattle.std.proofs.Common.{arith}
use Rattle.bits.specs.Bytes.{bytes, upper_byte, lower_byte, exchange}
use Rattle.bits.proofs.bytes.exchange_bytes.Goals as goal

pub returns : goal.returns
unfolding exchange bytes upper_byte lower_byte
returns c = omega (arith, c.swap_bytes.ensures)
