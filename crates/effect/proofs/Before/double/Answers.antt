-- The answers to the goals of `effect::Before::double`. Assumes nothing.
use Rattle.isa.specs.Effects.{double}
use Rattle.effect.proofs.Before.double.Goals as goal

pub returns : goal.returns
unfolding double
returns c = λ regs sw. rw (← c.high.ensures, ← c.low.ensures, ← c.status.ensures) (c.into_registers.ensures regs sw)
