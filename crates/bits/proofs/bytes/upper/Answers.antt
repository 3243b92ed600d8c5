-- The answers to the goals of `bits::bytes::upper`. Assumes nothing.
use mathlib.Core.Path.{refl}
use Rattle.bits.specs.Bytes.{upper_byte}
use Rattle.bits.proofs.bytes.upper.Goals as goal

pub returns : goal.returns
unfolding upper_byte
returns c = refl
