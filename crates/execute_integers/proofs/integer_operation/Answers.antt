-- The answers to the goals of `execute_integers::integer_operation`. Assumes nothing.
use Rattle.isa.specs.Integers.{integer_operation}
use borrow.Author.Tests.{ne_eqb}
use Rattle.execute_integers.proofs.integer_operation.Goals as goal

pub combine32-requires : goal.combine32-requires
combine32-requires c = c.field_a-a.ensures.1

pub combine32-requires-in-78 : goal.combine32-requires-in-78
combine32-requires-in-78 c = c.field_a-a.ensures.1

pub returns-in-56 : goal.returns-in-56
unfolding integer_operation
returns-in-56 c = rw (c.in-56.is, ← c.field_a-a.ensures.0, ← c.add.ensures) (c.memory_outcome.ensures _ _)

pub returns-in-57 : goal.returns-in-57
unfolding integer_operation
returns-in-57 c = rw (c.in-57.is, ← c.field_a-a.ensures.0, ← c.operand_of-o.ensures, ← c.absolute.ensures) (c.single_outcome.ensures _ _)

pub returns-in-58 : goal.returns-in-58
unfolding integer_operation
returns-in-58 c = rw (c.in-58.is, ← c.field_a-a.ensures.0, ← c.double_operand.ensures, ← c.absolute-in-58.ensures) (c.double_outcome.ensures _ _)

pub returns-in-64 : goal.returns-in-64
unfolding integer_operation
returns-in-64 c = rw (c.in-64.is, ← c.field_a-a.ensures.0, ← c.sub.ensures) (c.memory_outcome-in-64.ensures _ _)

pub returns-in-65 : goal.returns-in-65
unfolding integer_operation
returns-in-65 c = rw (c.in-65.is, ← c.field_a-a.ensures.0, ← c.operand_of-o.ensures, ← c.negate.ensures) (c.single_outcome-in-65.ensures _ _)

pub returns-in-66 : goal.returns-in-66
unfolding integer_operation
returns-in-66 c = rw (c.in-66.is, ← c.field_a-a.ensures.0, ← c.double_operand-in-66.ensures, ← c.negate-in-66.ensures) (c.double_outcome-in-66.ensures _ _)

pub returns-in-71 : goal.returns-in-71
unfolding integer_operation
returns-in-71 c = rw (c.in-71.is, ← c.field_a-a.ensures.0, ← c.operand_of-o.ensures, ← c.get.ensures, ← c.multiply.ensures) (c.single_outcome-in-71.ensures _ _)

pub returns-in-72 : goal.returns-in-72
unfolding integer_operation
returns-in-72 c = rw (c.in-72.is, ← c.accumulator_of-k.ensures.0, ← c.operand_of-o.ensures, ← c.get-in-72.ensures, ← c.multiply_long.ensures) (c.double_outcome-in-72.ensures _ _)

pub returns-in-73 : goal.returns-in-73
unfolding integer_operation
returns-in-73 c = rw (c.in-73.is, ← c.field_a-a.ensures.0, ← c.combine32.ensures) (c.double_outcome-in-73.ensures _ _)

pub returns-in-76 : goal.returns-in-76
unfolding integer_operation
returns-in-76 c = rw (c.in-76.is, ← c.field_a-a.ensures.0, ← c.operand_of-o.ensures, ← c.get-in-76.ensures, ← c.divide.ensures) (c.quotient_outcome.ensures _ _)

pub returns-in-77 : goal.returns-in-77
unfolding integer_operation
returns-in-77 c = rw (c.in-77.is, ← c.accumulator_of-k.ensures.0, ← c.operand_of-o.ensures, ← c.pair_at.ensures, ← c.divide_long.ensures) (c.quotient_outcome-in-77.ensures _ _)

pub returns-in-78 : goal.returns-in-78
unfolding integer_operation
returns-in-78 c = rw (c.in-78.is, ← c.field_a-a.ensures.0, ← c.combine32-in-78.ensures) (c.double_outcome-in-78.ensures _ _)

pub returns-in_default : goal.returns-in_default
unfolding integer_operation
returns-in_default c = rw (ne_eqb _ _ c.requires.0, ne_eqb _ _ c.requires.1, ne_eqb _ _ c.requires.2, ne_eqb _ _ c.requires.3, ne_eqb _ _ c.in_default.in_default-own.rest.0.0.0.0.0.0.0.0.0.0.0.1, ne_eqb _ _ c.in_default.in_default-own.rest.0.0.0.0.0.0.0.0.0.0.1, ne_eqb _ _ c.in_default.in_default-own.rest.0.0.0.0.0.0.0.0.0.1, ne_eqb _ _ c.in_default.in_default-own.rest.0.0.0.0.0.0.0.0.1, ne_eqb _ _ c.in_default.in_default-own.rest.0.0.0.0.0.0.0.1, ne_eqb _ _ c.in_default.in_default-own.rest.0.0.0.0.0.0.1, ne_eqb _ _ c.in_default.in_default-own.rest.0.0.0.0.0.1, ne_eqb _ _ c.in_default.in_default-own.rest.0.0.0.0.1, ne_eqb _ _ c.in_default.in_default-own.rest.0.0.0.1, ne_eqb _ _ c.in_default.in_default-own.rest.0.0.1, ne_eqb _ _ c.in_default.in_default-own.rest.0.1, ne_eqb _ _ c.in_default.in_default-own.rest.1) (c.nothing.ensures _)
