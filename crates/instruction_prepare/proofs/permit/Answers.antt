-- The answers to the goals of `instruction_prepare::permit`. Assumes nothing.
use Rattle.machine.specs.Instructions.{permitted}
use mathlib.Core.Path.{refl}
use Rattle.instruction_prepare.proofs.permit.Goals as goal

pub returns-in-User : goal.returns-in-User
unfolding permitted
returns-in-User c = rw c.in-User.is

pub returns-in-Supervisor : goal.returns-in-Supervisor
unfolding permitted
returns-in-Supervisor c = rw c.in-Supervisor.is refl

pub returns-in-Executive : goal.returns-in-Executive
unfolding permitted
returns-in-Executive c = rw c.in-Executive.is
