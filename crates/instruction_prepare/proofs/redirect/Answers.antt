-- The answers to the goals of `instruction_prepare::redirect`. Assumes nothing.
use Rattle.std.proofs.Common.{Err, ap}
use Rattle.machine.specs.Instructions.{redirected}
use Rattle.machine.specs.State.{advanced}
use mathlib.Core.Path.{refl}
use Rattle.instruction_prepare.proofs.redirect.Goals as goal

pub returns-in-Ok : goal.returns-in-Ok
unfolding redirected advanced
returns-in-Ok c = rw c.in-Ok.is c.ready.ensures

pub returns-in-Err : goal.returns-in-Err
unfolding redirected advanced
returns-in-Err c = rw (c.in-Err.is, ← c.advance.ensures) (ap Err c.denied.ensures)
