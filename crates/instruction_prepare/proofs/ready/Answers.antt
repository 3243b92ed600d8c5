-- The answers to the goals of `instruction_prepare::ready`. Assumes nothing.
use Rattle.machine.specs.Instructions.{ready_at}
use mathlib.Core.Path.{refl}
use Rattle.instruction_prepare.proofs.ready.Goals as goal

pub returns : goal.returns
unfolding ready_at
returns c = refl
