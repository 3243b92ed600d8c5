-- The answers to the goals of `effect::put`. Assumes nothing.
use Rattle.isa.specs.Fields.{with_register}
use Rattle.std.proofs.Common.{refl}
use Rattle.effect.proofs.put.Goals as goal

pub returns : goal.returns
unfolding with_register
returns c = refl
