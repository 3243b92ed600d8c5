-- The answers to the goals of `effect::Before::modified`. Assumes nothing.
use Rattle.isa.specs.Effects.{modified}
use Rattle.effect.proofs.Before.modified.Goals as goal

pub returns : goal.returns
unfolding modified
returns c = λ regs sw. rw (← c.following.ensures) (c.effect.ensures regs sw)
