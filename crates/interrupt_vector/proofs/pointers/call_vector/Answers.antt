-- The answers to the goals of `interrupt_vector::pointers::call_vector`. Assumes nothing.
use Rattle.machine.specs.Entries.{call_of}
use Rattle.interrupt_vector.proofs.pointers.call_vector.Goals as goal

pub returns : goal.returns
unfolding call_of
returns c = c.vector_each.ensures
