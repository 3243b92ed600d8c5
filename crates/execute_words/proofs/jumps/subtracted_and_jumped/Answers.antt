-- The answers to the goals of `execute_words::jumps::subtracted_and_jumped`. Assumes nothing.
use Rattle.isa.specs.Words.{subtracted_and_jumped}
use Rattle.execute_words.proofs.jumps.subtracted_and_jumped.Goals as goal

pub returns : goal.returns
unfolding subtracted_and_jumped
returns c = λ regs sw. rw (← c.field_a.ensures.0, ← c.unless_zero.ensures, ← c.status.ensures) (c.effect.ensures regs sw)
