-- The answers to the goals of `effect::Before::single`. Assumes nothing.
use Rattle.isa.specs.Effects.{single}
use Rattle.effect.proofs.Before.single.Goals as goal

pub returns : goal.returns
unfolding single
returns c = λ regs sw. rw (← c.status.ensures) (c.into_registers.ensures regs sw)
