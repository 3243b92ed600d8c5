-- The answers to the goals of `execute_float_words::results::to_integer`. Assumes nothing.
use Rattle.execute_float_words.proofs.FloatEffects.{integer-is}
use mathlib.Core.Path.{◌∙◌}
use Rattle.execute_float_words.proofs.results.to_integer.Goals as goal

pub returns : goal.returns
returns c = λ sw. c.into_registers.ensures _ sw ∙ integer-is _ _ _ _ _ _ _ _ _ _ _ c.field_a-a.ensures.0 c.both24-p.ensures c.get.ensures c.fix-f.ensures.0 c.fix-f.ensures.1 c.status.ensures c.fixed_overflow-bits.ensures
