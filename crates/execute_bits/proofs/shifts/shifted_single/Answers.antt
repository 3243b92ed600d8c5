-- The answers to the goals of `execute_bits::shifts::shifted_single`. Assumes nothing.
use Rattle.isa.specs.Words.{shifted_single}
use Rattle.execute_bits.proofs.shifts.shifted_single.Goals as goal

pub returns : goal.returns
unfolding shifted_single
returns c = λ regs sw. rw (← c.field_a-a.ensures.0, ← c.status.ensures, ← c.fixed_overflow-bits.ensures) (c.into_registers.ensures regs sw)
