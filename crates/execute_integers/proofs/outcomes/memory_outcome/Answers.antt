-- The answers to the goals of `execute_integers::outcomes::memory_outcome`. Assumes nothing.
use Rattle.isa.specs.Integers.{memory_outcome}
use Rattle.execute_integers.proofs.outcomes.memory_outcome.Goals as goal

pub returns : goal.returns
unfolding memory_outcome
returns c = λ regs sw. rw (← c.fixed_overflow.ensures) (c.modified.ensures regs sw)
