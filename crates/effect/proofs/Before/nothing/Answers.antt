-- The answers to the goals of `effect::Before::nothing`. Assumes nothing.
use Rattle.isa.specs.Effects.{nothing, stored}
use Rattle.effect.proofs.Before.nothing.Goals as goal

pub returns : goal.returns
unfolding nothing stored
returns c = λ regs. c.stored.ensures regs
