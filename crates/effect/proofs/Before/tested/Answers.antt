-- The answers to the goals of `effect::Before::tested`. Assumes nothing.
use Rattle.isa.specs.Effects.{tested}
use Rattle.effect.proofs.Before.tested.Goals as goal

pub returns : goal.returns
unfolding tested
returns c = λ regs sw. c.into_registers.ensures regs sw
