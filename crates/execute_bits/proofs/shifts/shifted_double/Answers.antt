-- The answers to the goals of `execute_bits::shifts::shifted_double`. Assumes nothing.
use Rattle.isa.specs.Words.{shifted_double}
use Rattle.execute_bits.proofs.shifts.shifted_double.Goals as goal

pub returns : goal.returns
unfolding shifted_double
returns c = λ regs sw. rw (← c.fixed_overflow-bits.ensures, ← c.field_a-a.ensures.0, ← c.high.ensures, ← c.low.ensures, ← c.status.ensures) (c.into_registers.ensures regs sw)
