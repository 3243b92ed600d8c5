-- The answers to the goals of `execute_float_words::operands::both40`. Assumes nothing.
use Rattle.execute_float_words.specs.Operands.{operands40}
use mathlib.Core.Path.{refl}
use Rattle.execute_float_words.proofs.operands.both40.Goals as goal

pub returns : goal.returns
unfolding operands40
returns c = rw (← c.field_a-k.ensures.0, ← c.get-q.ensures, ← c.operand_word-t.ensures, ← c.get.ensures, ← c.get-2.ensures, ← c.mantissa40.ensures, ← c.exponent.ensures.0, ← c.operand_word.ensures, ← c.operand_word-2.ensures, ← c.mantissa40-2.ensures, ← c.exponent-2.ensures.0) refl
