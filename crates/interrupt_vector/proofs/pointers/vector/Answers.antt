-- The answers to the goals of `interrupt_vector::pointers::vector`. Assumes nothing.
use Rattle.machine.specs.Entries.{vector_of}
use Rattle.interrupt_vector.proofs.pointers.vector.Goals as goal

pub returns-in-Some : goal.returns-in-Some
unfolding vector_of
returns-in-Some c = c.vector_found.ensures _ c.in-Some.is

pub returns-in-None : goal.returns-in-None
unfolding vector_of
returns-in-None c = c.vector_each.ensures
