-- The answers to the goals of `effect::cs_of`. Assumes nothing.
use Rattle.machine.specs.State.{cs_of}
use Rattle.std.proofs.Common.{refl}
use Rattle.effect.proofs.cs_of.Goals as goal

pub returns : goal.returns
unfolding cs_of
returns c = refl
