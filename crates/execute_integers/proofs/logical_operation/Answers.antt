-- The answers to the goals of `execute_integers::logical_operation`. Assumes nothing.
use Rattle.isa.specs.Integers.{logical_operation}
use borrow.Author.Tests.{ne_eqb}
use Rattle.execute_integers.proofs.logical_operation.Goals as goal

pub returns-in-83 : goal.returns-in-83
unfolding logical_operation
returns-in-83 c = rw (c.in-83.is, ← c.field_a-a.ensures.0, ← c.operand_of-o.ensures, ← c.get.ensures, ← c.xor.ensures) (c.single.ensures _ _)

pub returns-in-84 : goal.returns-in-84
unfolding logical_operation
returns-in-84 c = rw (c.in-84.is, ← c.field_a-a.ensures.0, ← c.operand_of-o.ensures, ← c.get-in-84.ensures, ← c.nand.ensures) (c.single-in-84.ensures _ _)

pub returns-in-89 : goal.returns-in-89
unfolding logical_operation
returns-in-89 c = rw (c.in-89.is, ← c.field_a-a.ensures.0, ← c.get-in-89.ensures, ← c.exchange_bytes.ensures) (c.single-in-89.ensures _ _)

pub returns-in-91 : goal.returns-in-91
unfolding logical_operation
returns-in-91 c = rw (c.in-91.is, ← c.accumulator_of-k.ensures.0, ← c.operand_of-o.ensures, ← c.get-in-91.ensures, ← c.compare.ensures) (c.tested.ensures _ _)

pub returns-in-92 : goal.returns-in-92
unfolding logical_operation
returns-in-92 c = rw (c.in-92.is, ← c.field_a-a.ensures.0, ← c.get-in-92.ensures, ← c.compare_limits.ensures) (c.tested-in-92.ensures _ _)

pub returns-in-93 : goal.returns-in-93
unfolding logical_operation
returns-in-93 c = rw (c.in-93.is, ← c.field_a-a.ensures.0, ← c.pair_at.ensures, ← c.double_operand.ensures, ← c.compare-in-93.ensures) (c.tested-in-93.ensures _ _)

pub returns-in_default : goal.returns-in_default
unfolding logical_operation
returns-in_default c = rw (ne_eqb _ _ c.requires.0, ne_eqb _ _ c.requires.1, ne_eqb _ _ c.in_default.in_default-own.rest.0.0.0.0.0.1, ne_eqb _ _ c.in_default.in_default-own.rest.0.0.0.0.1, ne_eqb _ _ c.in_default.in_default-own.rest.0.0.0.1, ne_eqb _ _ c.in_default.in_default-own.rest.0.0.1, ne_eqb _ _ c.in_default.in_default-own.rest.0.1, ne_eqb _ _ c.in_default.in_default-own.rest.1) (c.nothing.ensures _)
