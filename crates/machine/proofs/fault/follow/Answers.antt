-- The answers to the goals of `machine::fault::follow`. Assumes nothing.
use Rattle.machine.specs.Faults.{followed}
use mathlib.Core.Path.{refl}
use Rattle.machine.proofs.fault.follow.Goals as goal

pub returns : goal.returns
unfolding followed
returns c = refl
