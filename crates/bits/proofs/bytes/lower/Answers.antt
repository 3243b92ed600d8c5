-- The answers to the goals of `bits::bytes::lower`. Assumes nothing.
use mathlib.Core.Path.{refl}
use Rattle.bits.specs.Bytes.{lower_byte}
use Rattle.bits.proofs.bytes.lower.Goals as goal

pub returns : goal.returns
unfolding lower_byte
returns c = refl
