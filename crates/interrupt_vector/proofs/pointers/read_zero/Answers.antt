-- The answers to the goals of `interrupt_vector::pointers::read_zero`. Assumes nothing.
use Rattle.machine.specs.Entries.{got_zero}
use Rattle.interrupt_vector.proofs.pointers.read_zero.Goals as goal

pub returns : goal.returns
unfolding got_zero
returns c = c.read_word.ensures
