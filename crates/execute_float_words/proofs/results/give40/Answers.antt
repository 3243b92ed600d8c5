-- The answers to the goals of `execute_float_words::results::give40`. Assumes nothing.
use Rattle.isa.specs.Floats.{float40}
use Rattle.execute_float_words.proofs.results.give40.Goals as goal

pub returns : goal.returns
unfolding float40
returns c = λ regs sw. rw (← c.first_word-first.ensures, ← c.second_word-second.ensures, ← c.third_word-third.ensures, ← c.status-cs.ensures, ← c.float_faults-bits.ensures) (c.into_registers.ensures regs sw)
