-- The answers to the goals of `effect::Before::stored`. Assumes nothing.
use Rattle.isa.specs.Effects.{stored}
use Rattle.effect.proofs.Before.stored.Goals as goal

pub returns : goal.returns
unfolding stored
returns c = λ regs. rw (← c.following.ensures, ← c.cs_of.ensures) (c.effect.ensures regs c.args.self.sw)
