-- The answers to the goals of `bits::bytes::store_masked`. Assumes nothing.
use mathlib.Core.Path.{refl}
use Rattle.bits.specs.Bytes.{store_masked}
use Rattle.bits.proofs.bytes.store_masked.Goals as goal

pub returns : goal.returns
unfolding store_masked
returns c = refl
