-- The answers to the goals of `execute_bits::shifts::shift_operation`. Assumes nothing.
use Prim.Native.Nat.{◌%◌}
use Rattle.choice.proofs.SelectLaws.{otherwise}
use Rattle.isa.specs.Words.{shift_operation}
use mathlib.Core.List.{[], ◌∷◌}
use mathlib.Core.Path.{sym, ◌∙◌}
use Rattle.execute_bits.proofs.shifts.shift_operation.Goals as goal

pub returns-in-10 : goal.returns-in-10
unfolding shift_operation
returns-in-10 c = rw (c.in-10.is, ← c.field_a-a.ensures.0, ← c.field_b-b.ensures.0, ← c.get-rb.ensures, ← c.left.ensures) (c.single.ensures _ _)

pub returns-in-11 : goal.returns-in-11
unfolding shift_operation
returns-in-11 c = rw (c.in-11.is, ← c.field_a-a.ensures.0, ← c.field_b-b.ensures.0, ← c.get-rb.ensures, ← c.right.ensures) (c.single-in-11.ensures _ _)

pub returns-in-12 : goal.returns-in-12
unfolding shift_operation
returns-in-12 c = rw (c.in-12.is, ← c.field_a-a.ensures.0, ← c.field_b-b.ensures.0, ← c.get-rb.ensures, ← c.arith.ensures) (c.single-in-12.ensures _ _)

pub returns-in-13 : goal.returns-in-13
unfolding shift_operation
returns-in-13 c = rw (c.in-13.is, ← c.field_a-a.ensures.0, ← c.field_b-b.ensures.0, ← c.get-rb.ensures, ← c.cyclic.ensures) (c.single-in-13.ensures _ _)

pub returns-in-14 : goal.returns-in-14
unfolding shift_operation
returns-in-14 c = rw (c.in-14.is, ← c.field_a-a.ensures.0, ← c.field_b-b.ensures.0, ← c.pair_at.ensures, ← c.left-in-14.ensures) (c.double.ensures _ _)

pub returns-in-15 : goal.returns-in-15
unfolding shift_operation
returns-in-15 c = rw (c.in-15.is, ← c.field_a-a.ensures.0, ← c.field_b-b.ensures.0, ← c.pair_at-in-15.ensures, ← c.right-in-15.ensures) (c.double-in-15.ensures _ _)

pub returns-in-16 : goal.returns-in-16
unfolding shift_operation
returns-in-16 c = rw (c.in-16.is, ← c.field_a-a.ensures.0, ← c.field_b-b.ensures.0, ← c.pair_at-in-16.ensures, ← c.arith-in-16.ensures) (c.double-in-16.ensures _ _)

pub returns-in-17 : goal.returns-in-17
unfolding shift_operation
returns-in-17 c = rw (c.in-17.is, ← c.field_a-a.ensures.0, ← c.field_b-b.ensures.0, ← c.pair_at-in-17.ensures, ← c.cyclic-in-17.ensures) (c.double-in-17.ensures _ _)

pub returns-in-18 : goal.returns-in-18
unfolding shift_operation
returns-in-18 c = rw (c.in-18.is, ← c.field_a-a.ensures.0, ← c.field_b-b.ensures.0, ← c.get-rb.ensures, ← c.get.ensures, ← c.logical.ensures) (c.shifted_single.ensures _ _)

pub returns-in-19 : goal.returns-in-19
unfolding shift_operation
returns-in-19 c = rw (c.in-19.is, ← c.field_a-a.ensures.0, ← c.field_b-b.ensures.0, ← c.get-rb.ensures, ← c.get-in-19.ensures, ← c.arithmetic.ensures) (c.shifted_single-in-19.ensures _ _)

pub returns-in-20 : goal.returns-in-20
unfolding shift_operation
returns-in-20 c = rw (c.in-20.is, ← c.field_a-a.ensures.0, ← c.field_b-b.ensures.0, ← c.get-rb.ensures, ← c.get-in-20.ensures, ← c.circular.ensures) (c.shifted_single-in-20.ensures _ _)

pub returns-in-21 : goal.returns-in-21
unfolding shift_operation
returns-in-21 c = rw (c.in-21.is, ← c.field_a-a.ensures.0, ← c.field_b-b.ensures.0, ← c.get-rb.ensures, ← c.pair_at-in-21.ensures, ← c.logical-in-21.ensures) (c.shifted_double.ensures _ _)

pub returns-in-22 : goal.returns-in-22
unfolding shift_operation
returns-in-22 c = rw (c.in-22.is, ← c.field_a-a.ensures.0, ← c.field_b-b.ensures.0, ← c.get-rb.ensures, ← c.pair_at-in-22.ensures, ← c.arithmetic-in-22.ensures) (c.shifted_double-in-22.ensures _ _)

pub returns-in-23 : goal.returns-in-23
unfolding shift_operation
returns-in-23 c = rw (c.in-23.is, ← c.field_a-a.ensures.0, ← c.field_b-b.ensures.0, ← c.get-rb.ensures, ← c.pair_at-in-23.ensures, ← c.circular-in-23.ensures) (c.shifted_double-in-23.ensures _ _)

pub returns-in_default : goal.returns-in_default
unfolding shift_operation
returns-in_default c = c.nothing.ensures _ ∙ sym (otherwise (c.args.before.n.form % 256) ((10, _) ∷ (11, _) ∷ (12, _) ∷ (13, _) ∷ (14, _) ∷ (15, _) ∷ (16, _) ∷ (17, _) ∷ (18, _) ∷ (19, _) ∷ (20, _) ∷ (21, _) ∷ (22, _) ∷ (23, _) ∷ []) _ ((((((((((((((tt, c.in_default.in_default-own.rest.0.0.0.0.0.0.0.0.0.0.0.0.0.1), c.in_default.in_default-own.rest.0.0.0.0.0.0.0.0.0.0.0.0.1), c.in_default.in_default-own.rest.0.0.0.0.0.0.0.0.0.0.0.1), c.in_default.in_default-own.rest.0.0.0.0.0.0.0.0.0.0.1), c.in_default.in_default-own.rest.0.0.0.0.0.0.0.0.0.1), c.in_default.in_default-own.rest.0.0.0.0.0.0.0.0.1), c.in_default.in_default-own.rest.0.0.0.0.0.0.0.1), c.in_default.in_default-own.rest.0.0.0.0.0.0.1), c.in_default.in_default-own.rest.0.0.0.0.0.1), c.in_default.in_default-own.rest.0.0.0.0.1), c.in_default.in_default-own.rest.0.0.0.1), c.in_default.in_default-own.rest.0.0.1), c.in_default.in_default-own.rest.0.1), c.in_default.in_default-own.rest.1))
