-- The answers to the goals of `effect::float_faults`. Assumes nothing.
use Rattle.isa.specs.Effects.{float_faults}
use Rattle.std.proofs.Common.{rules}
use Rattle.effect.proofs.float_faults.Goals as goal

pub returns-in-Some-Overflow : goal.returns-in-Some-Overflow
unfolding float_faults
returns-in-Some-Overflow c = search rules

pub returns-in-Some-Underflow : goal.returns-in-Some-Underflow
unfolding float_faults
returns-in-Some-Underflow c = search rules

pub returns-in-None : goal.returns-in-None
unfolding float_faults
returns-in-None c = search rules
