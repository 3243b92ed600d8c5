-- The answers to the goals of `interrupt_vector::pointers::gather`. Assumes nothing.
use Rattle.machine.specs.Entries.{read_after}
use Rattle.interrupt_vector.proofs.pointers.gather.Goals as goal

pub returns-in-Ok : goal.returns-in-Ok
unfolding read_after
returns-in-Ok c = cc

pub returns-in-Err : goal.returns-in-Err
unfolding read_after
returns-in-Err c = cc
