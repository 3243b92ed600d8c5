-- The answers to the goals of `effect::Before::effect`. Assumes nothing.
use Rattle.effect.specs.Work.{worked, filled}
use Rattle.isa.specs.Effects.{effect}
use Rattle.std.proofs.Common.{refl}
use Rattle.effect.proofs.Before.effect.Goals as goal

pub returns : goal.returns
unfolding worked filled effect
returns c = λ regs sw. refl
