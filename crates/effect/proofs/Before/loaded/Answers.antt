-- The answers to the goals of `effect::Before::loaded`. Assumes nothing.
use Rattle.isa.specs.Effects.{loaded}
use Rattle.effect.proofs.Before.loaded.Goals as goal

pub returns : goal.returns
unfolding loaded
returns c = λ regs. rw (← c.cs_of.ensures) (c.into_registers.ensures regs c.args.self.sw)
