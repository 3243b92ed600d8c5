-- The answers to the goals of `shift::counted::arithmetic`. Assumes nothing.
use Rattle.std.proofs.Common.{◌∙◌, ap, ap₂}
use Rattle.shift.specs.Shift.{outcome, plain}
use Rattle.shift.proofs.CountLaws.{left-within, right-within, left-shifted, right-shifted, not-shifted}
use Rattle.shift.proofs.counted.arithmetic.Goals as goal

pub left-requires : goal.left-requires
left-requires g c = left-within g.W.Word.WIDTH _ (rw c.WIDTH.ensures at c.count_of.ensures) c.in-Left.is

pub sign_changes-requires : goal.sign_changes-requires
sign_changes-requires g c = left-within g.W.Word.WIDTH _ (rw c.WIDTH.ensures at c.count_of.ensures) c.in-Left.is

pub arith-requires : goal.arith-requires
arith-requires g c = right-within g.W.Word.WIDTH _ (rw c.WIDTH.ensures at c.count_of.ensures) c.in-Right.is

pub returns-in-Left : goal.returns-in-Left
returns-in-Left g c =
    left-shifted g.W.Word.WIDTH _ _ _ _ (rw c.WIDTH.ensures at c.count_of.ensures) c.in-Left.is (ap₂ outcome c.left.ensures c.sign_changes.ensures)

pub returns-in-Right : goal.returns-in-Right
returns-in-Right g c =
    right-shifted g.W.Word.WIDTH _ _ _ _ (rw c.WIDTH.ensures at c.count_of.ensures) c.in-Right.is (c.plain.ensures ∙ ap plain c.arith.ensures)

pub returns-in-Beyond : goal.returns-in-Beyond
returns-in-Beyond g c = c.unmoved.ensures ∙ not-shifted g.W.Word.WIDTH _ _ _ _ (rw c.WIDTH.ensures at c.count_of.ensures) c.in-Beyond.is
