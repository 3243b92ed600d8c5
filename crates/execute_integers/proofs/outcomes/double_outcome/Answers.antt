-- The answers to the goals of `execute_integers::outcomes::double_outcome`. Assumes nothing.
use Rattle.isa.specs.Integers.{double_outcome}
use Rattle.execute_integers.proofs.outcomes.double_outcome.Goals as goal

pub returns : goal.returns
unfolding double_outcome
returns c = λ regs sw. rw (← c.fixed_overflow-bits.ensures, ← c.high.ensures, ← c.low.ensures) (c.into_registers.ensures regs sw)
