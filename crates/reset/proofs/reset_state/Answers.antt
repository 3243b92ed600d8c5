-- The answers to the goals of `reset::reset_state`. Assumes nothing.
use Rattle.machine.specs.State.{reset_state}
use mathlib.Core.Path.{refl}
use Rattle.reset.proofs.reset_state.Goals as goal

pub returns : goal.returns
unfolding reset_state
returns c = refl
