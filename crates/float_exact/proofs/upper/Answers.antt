-- The answers to the goals of `float_exact::upper`. Assumes nothing.
use mathlib.Core.Path.{refl}
use Rattle.float_exact.specs.Steps.{upper}
use Rattle.float_exact.proofs.upper.Goals as goal

pub returns : goal.returns
unfolding upper
returns g c = refl
