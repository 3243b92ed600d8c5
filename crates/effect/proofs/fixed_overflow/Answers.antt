-- The answers to the goals of `effect::fixed_overflow`. Assumes nothing.
use Rattle.isa.specs.Effects.{fixed_overflow}
use Rattle.effect.proofs.fixed_overflow.Goals as goal

pub returns-then-overflow : goal.returns-then-overflow
unfolding fixed_overflow
returns-then-overflow c = cc

pub returns-else-overflow : goal.returns-else-overflow
unfolding fixed_overflow
returns-else-overflow c = cc
