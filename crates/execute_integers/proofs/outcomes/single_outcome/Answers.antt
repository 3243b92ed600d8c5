-- The answers to the goals of `execute_integers::outcomes::single_outcome`. Assumes nothing.
use Rattle.isa.specs.Integers.{single_outcome}
use Rattle.execute_integers.proofs.outcomes.single_outcome.Goals as goal

pub returns : goal.returns
unfolding single_outcome
returns c = λ regs sw. rw (← c.fixed_overflow.ensures) (c.into_registers.ensures regs sw)
