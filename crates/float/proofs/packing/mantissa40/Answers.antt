-- The answers to the goals of `float::packing::mantissa40`. Assumes nothing.
use mathlib.Core.Path.{refl}
use Rattle.float.specs.Words.{mantissa40}
use Rattle.float.proofs.packing.mantissa40.Goals as goal

pub returns : goal.returns
unfolding mantissa40
returns c = rw c.mantissa24.ensures refl
