-- The answers to the goals of `effect::Before::into_registers`. Assumes nothing.
use Rattle.isa.specs.Effects.{into_registers}
use Rattle.effect.proofs.Before.into_registers.Goals as goal

pub returns : goal.returns
unfolding into_registers
returns c = λ regs sw. rw (← c.following.ensures) (c.effect.ensures regs sw)
