-- The answers to the goals of `interrupt_entry::gather`. Assumes nothing.
use Rattle.machine.specs.Entries.{stored_after}
use Rattle.interrupt_entry.proofs.gather.Goals as goal

pub returns-in-Ok : goal.returns-in-Ok
unfolding stored_after
returns-in-Ok c = cc

pub returns-in-Err : goal.returns-in-Err
unfolding stored_after
returns-in-Err c = cc
