-- The answers to the goals of `execute_floats::float_operation`. Assumes nothing.
use Rattle.execute_float_words.proofs.FloatEffects.{combined24-is, combined40-is, changed24-is, compared24-is, compared40-is}
use Rattle.float_add.specs.Add.{sum_of, difference_of}
use Rattle.float_convert.specs.Convert.{negated_of, absolute_of}
use Rattle.float_div.specs.Divide.{quotient_of}
use Rattle.float_mul.specs.Multiply.{product_of}
use Rattle.isa.specs.Floats.{float_operation}
use borrow.Author.Tests.{ne_eqb}
use Prim.Native.Nat.{◌%◌}
use native.Mathlib.Omega.{arith}
use mathlib.Core.Path.{◌∙◌}
use Rattle.execute_floats.proofs.float_operation.Goals as goal

pub returns-in-60 : goal.returns-in-60
unfolding float_operation
returns-in-60 c = rw c.in-60.is (c.give24.ensures _ _ ∙ combined24-is (sum_of 24) _ _ _ _ _ _ _ c.accumulator_of-k.ensures.0 c.both24.ensures c.combine.ensures)

pub returns-in-61 : goal.returns-in-61
unfolding float_operation
returns-in-61 c = rw c.in-61.is (c.give40.ensures _ _ ∙ combined40-is (sum_of 40) _ _ _ _ _ _ _ _ c.field_a-a.ensures.0 c.both40.ensures c.combine-in-61.ensures)

pub returns-in-62 : goal.returns-in-62
unfolding float_operation
returns-in-62 c = rw c.in-62.is (c.give24-in-62.ensures _ _ ∙ changed24-is (absolute_of 24) _ _ _ _ _ _ _ c.field_a-a.ensures.0 c.both24-in-62.ensures c.change24.ensures)

pub returns-in-68 : goal.returns-in-68
unfolding float_operation
returns-in-68 c = rw c.in-68.is (c.give24-in-68.ensures _ _ ∙ combined24-is (difference_of 24) _ _ _ _ _ _ _ c.accumulator_of-k.ensures.0 c.both24-in-68.ensures c.combine-in-68.ensures)

pub returns-in-69 : goal.returns-in-69
unfolding float_operation
returns-in-69 c = rw c.in-69.is (c.give40-in-69.ensures _ _ ∙ combined40-is (difference_of 40) _ _ _ _ _ _ _ _ c.field_a-a.ensures.0 c.both40-in-69.ensures c.combine-in-69.ensures)

pub returns-in-70 : goal.returns-in-70
unfolding float_operation
returns-in-70 c = rw c.in-70.is (c.give24-in-70.ensures _ _ ∙ changed24-is (negated_of 24) _ _ _ _ _ _ _ c.field_a-a.ensures.0 c.both24-in-70.ensures c.change24-in-70.ensures)

pub returns-in-74 : goal.returns-in-74
unfolding float_operation
returns-in-74 c = rw c.in-74.is (c.give24-in-74.ensures _ _ ∙ combined24-is (product_of 24) _ _ _ _ _ _ _ c.accumulator_of-k.ensures.0 c.both24-in-74.ensures c.combine-in-74.ensures)

pub returns-in-75 : goal.returns-in-75
unfolding float_operation
returns-in-75 c = rw c.in-75.is (c.give40-in-75.ensures _ _ ∙ combined40-is (product_of 40) _ _ _ _ _ _ _ _ c.field_a-a.ensures.0 c.both40-in-75.ensures c.combine-in-75.ensures)

pub returns-in-79 : goal.returns-in-79
unfolding float_operation
returns-in-79 c = rw c.in-79.is (c.give24-in-79.ensures _ _ ∙ combined24-is (quotient_of 24) _ _ _ _ _ _ _ c.accumulator_of-k.ensures.0 c.both24-in-79.ensures c.combine-in-79.ensures)

pub returns-in-80 : goal.returns-in-80
unfolding float_operation
returns-in-80 c = rw c.in-80.is (c.give40-in-80.ensures _ _ ∙ combined40-is (quotient_of 40) _ _ _ _ _ _ _ _ c.field_a-a.ensures.0 c.both40-in-80.ensures c.combine-in-80.ensures)

pub returns-in-85 : goal.returns-in-85
unfolding float_operation
returns-in-85 c = rw c.in-85.is (c.to_integer.ensures _)

pub returns-in-86 : goal.returns-in-86
unfolding float_operation
returns-in-86 c = rw (c.in-86.is, ← c.field_a-a.ensures.0, ← c.operand_of.ensures, ← c.from_integer.ensures) (c.give24-in-86.ensures _ _)

pub returns-in-87 : goal.returns-in-87
unfolding float_operation
returns-in-87 c = rw c.in-87.is (c.to_double_integer.ensures _)

pub returns-in-88 : goal.returns-in-88
unfolding float_operation
returns-in-88 c = rw (c.in-88.is, ← c.field_a-a.ensures.0, ← c.double_operand.ensures, ← c.from_integer-in-88.ensures) (c.give40-in-88.ensures _ _)

pub returns-in-94 : goal.returns-in-94
unfolding float_operation
returns-in-94 c = rw c.in-94.is (c.tested.ensures _ _ ∙ compared24-is _ _ _ _ _ _ c.both24-in-94.ensures c.compare_both.ensures)

pub returns-in-95 : goal.returns-in-95
unfolding float_operation
returns-in-95 c = rw c.in-95.is (c.tested-in-95.ensures _ _ ∙ compared40-is _ _ _ _ _ _ _ c.both40-in-95.ensures c.compare_both-in-95.ensures)

pub returns-in_default : goal.returns-in_default
unfolding float_operation
returns-in_default c =
    let k = c.args.before.n.form % 256 in
    rw (ne_eqb k 60 (λ e. omega arith), ne_eqb k 61 (λ e. omega arith), ne_eqb k 62 (λ e. omega arith), ne_eqb k 68 (λ e. omega arith), ne_eqb k 69 (λ e. omega arith), ne_eqb k 70 (λ e. omega arith), ne_eqb k 74 (λ e. omega arith), ne_eqb k 75 (λ e. omega arith), ne_eqb k 79 (λ e. omega arith), ne_eqb k 80 (λ e. omega arith), ne_eqb k 85 (λ e. omega arith), ne_eqb k 86 (λ e. omega arith), ne_eqb k 87 (λ e. omega arith), ne_eqb k 88 (λ e. omega arith), ne_eqb k 94 (λ e. omega arith), ne_eqb k 95 (λ e. omega arith))
    (c.nothing.ensures _)
