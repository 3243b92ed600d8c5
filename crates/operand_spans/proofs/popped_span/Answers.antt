-- The answers to the goals of `operand_spans::popped_span`. Assumes nothing.
use Rattle.isa.specs.Accesses.{popped_span}
use mathlib.Core.Path.{refl}
use native.Mathlib.Omega.{arith}
use Rattle.operand_spans.proofs.popped_span.Goals as goal

pub registers_from-requires : goal.registers_from-requires
registers_from-requires c = (c.field_a-a.ensures.1, c.field_b.ensures.1)

pub overflow_sub-result : goal.overflow_sub-result
overflow_sub-result c = omega (arith, c.field_a-a.ensures.1)

pub returns : goal.returns
unfolding popped_span
returns c = (rw (← c.field_a-a.ensures.0, ← c.get.ensures, ← c.field_b.ensures.0, ← c.registers_from.ensures.0) refl, c.registers_from.ensures.1)
