-- The answers to the goals of `execute_bits::bit::bit_operation`. Assumes nothing.
use Prim.Native.Nat.{◌%◌}
use Rattle.choice.proofs.SelectLaws.{otherwise}
use Rattle.isa.specs.Words.{bit_operation}
use mathlib.Core.List.{[], ◌∷◌}
use mathlib.Core.Path.{sym, ◌∙◌}
use Rattle.execute_bits.proofs.bit.bit_operation.Goals as goal

pub returns-in-3 : goal.returns-in-3
unfolding bit_operation
returns-in-3 c = rw (c.in-3.is, ← c.field_a-a.ensures.0, ← c.operand_of.ensures, ← c.set_bit.ensures) (c.replaced.ensures _)

pub returns-in-4 : goal.returns-in-4
unfolding bit_operation
returns-in-4 c = rw (c.in-4.is, ← c.field_a-a.ensures.0, ← c.operand_of-in-4.ensures, ← c.reset_bit.ensures) (c.replaced-in-4.ensures _)

pub returns-in-5 : goal.returns-in-5
unfolding bit_operation
returns-in-5 c = rw (c.in-5.is, ← c.field_a-a.ensures.0, ← c.operand_of-in-5.ensures, ← c.test_bit.ensures) (c.tested.ensures _ _)

pub returns-in-6 : goal.returns-in-6
unfolding bit_operation
returns-in-6 c = rw (c.in-6.is, ← c.field_a-a.ensures.0, ← c.operand_of-in-6.ensures) (c.test_and_set.ensures _ _)

pub returns-in-7 : goal.returns-in-7
unfolding bit_operation
returns-in-7 c = rw (c.in-7.is, ← c.field_a-a.ensures.0, ← c.field_b-b.ensures.0, ← c.get.ensures, ← c.get-in-7.ensures, ← c.set_bit-in-7.ensures) (c.loaded.ensures _)

pub returns-in-8 : goal.returns-in-8
unfolding bit_operation
returns-in-8 c = rw (c.in-8.is, ← c.field_a-a.ensures.0, ← c.field_b-b.ensures.0, ← c.get-in-8.ensures, ← c.get-in-8-2.ensures, ← c.reset_bit-in-8.ensures) (c.loaded-in-8.ensures _)

pub returns-in-9 : goal.returns-in-9
unfolding bit_operation
returns-in-9 c = rw (c.in-9.is, ← c.field_a-a.ensures.0, ← c.field_b-b.ensures.0, ← c.get-in-9.ensures, ← c.get-in-9-2.ensures, ← c.test_bit-in-9.ensures) (c.tested-in-9.ensures _ _)

pub returns-in_default : goal.returns-in_default
unfolding bit_operation
returns-in_default c = c.nothing.ensures _ ∙ sym (otherwise (c.args.before.n.form % 256) ((3, _) ∷ (4, _) ∷ (5, _) ∷ (6, _) ∷ (7, _) ∷ (8, _) ∷ (9, _) ∷ []) _ (((((((tt, c.in_default.in_default-own.rest.0.0.0.0.0.0.1), c.in_default.in_default-own.rest.0.0.0.0.0.1), c.in_default.in_default-own.rest.0.0.0.0.1), c.in_default.in_default-own.rest.0.0.0.1), c.in_default.in_default-own.rest.0.0.1), c.in_default.in_default-own.rest.0.1), c.in_default.in_default-own.rest.1))
