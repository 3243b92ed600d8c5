-- The answers to the goals of `float::packing::exponent`. Assumes nothing.
use mathlib.Core.Path.{refl}
use native.Mathlib.Omega.{arith}
use Rattle.float.specs.Words.{exponent_of}
use Rattle.float.proofs.packing.exponent.Goals as goal

pub returns : goal.returns
unfolding exponent_of
returns c = (refl, omega arith)
