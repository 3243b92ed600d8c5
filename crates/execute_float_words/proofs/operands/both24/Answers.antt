-- The answers to the goals of `execute_float_words::operands::both24`. Assumes nothing.
use Rattle.execute_float_words.specs.Operands.{operands24}
use mathlib.Core.Path.{refl}
use Rattle.execute_float_words.proofs.operands.both24.Goals as goal

pub returns : goal.returns
unfolding operands24
returns c = rw (← c.accumulator_of-k.ensures.0, ← c.get-q.ensures, ← c.operand_word-t.ensures, ← c.get.ensures, ← c.mantissa24.ensures, ← c.exponent.ensures.0, ← c.operand_word.ensures, ← c.mantissa24-2.ensures, ← c.exponent-2.ensures.0) refl
