-- The answers to the goals of `float::packing::mantissa24`. Assumes nothing.
use mathlib.Core.Path.{refl}
use Rattle.float.specs.Words.{mantissa24}
use Rattle.float.proofs.packing.mantissa24.Goals as goal

pub returns : goal.returns
unfolding mantissa24
returns c = refl
