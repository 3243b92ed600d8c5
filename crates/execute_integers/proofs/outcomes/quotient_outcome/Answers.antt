-- The answers to the goals of `execute_integers::outcomes::quotient_outcome`. Assumes nothing.
use Rattle.isa.specs.Integers.{quotient_outcome}
use Rattle.execute_integers.proofs.outcomes.quotient_outcome.Goals as goal

pub returns : goal.returns
unfolding quotient_outcome
returns c = λ regs sw. rw (← c.fixed_overflow-bits.ensures) (c.into_registers.ensures regs sw)
