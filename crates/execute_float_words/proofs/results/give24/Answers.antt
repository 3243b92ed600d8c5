-- The answers to the goals of `execute_float_words::results::give24`. Assumes nothing.
use Rattle.isa.specs.Floats.{float24}
use Rattle.execute_float_words.proofs.results.give24.Goals as goal

pub returns : goal.returns
unfolding float24
returns c = λ regs sw. rw (← c.first_word-first.ensures, ← c.second_word-second.ensures, ← c.status-cs.ensures, ← c.float_faults-bits.ensures) (c.into_registers.ensures regs sw)
