-- The answers to the goals of `execute_bits::bit::test_and_set`. Assumes nothing.
use Rattle.execute_bits.proofs.bit.test_and_set.Goals as goal

pub returns : goal.returns
returns c = λ regs sw. rw (← c.set_bit.ensures, ← c.test_bit.ensures) (c.modified.ensures regs sw)
