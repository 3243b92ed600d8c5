-- The answers to the goals of `execute_words::jumps::called`. Assumes nothing.
use Rattle.isa.specs.Words.{called}
use Rattle.execute_words.proofs.jumps.called.Goals as goal

pub returns : goal.returns
unfolding called
returns c = λ regs. rw (← c.field_a.ensures.0, ← c.cs_of.ensures) (c.effect.ensures regs c.args.before.sw)
