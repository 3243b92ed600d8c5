-- The answers to the goals of `shift::counted::circular`. Assumes nothing.
use Rattle.std.proofs.Common.{◌∙◌, ap}
use Rattle.shift.specs.Shift.{plain}
use Rattle.shift.proofs.CountLaws.{left-within, right-within, left-shifted, right-shifted, not-shifted}
use Rattle.shift.proofs.counted.circular.Goals as goal

pub cyclic-requires : goal.cyclic-requires
cyclic-requires g c = left-within g.W.Word.WIDTH _ (rw c.WIDTH.ensures at c.count_of.ensures) c.in-Left.is

pub overflow_sub-WIDTH : goal.overflow_sub-WIDTH
overflow_sub-WIDTH g c = rw c.WIDTH-in-Right.ensures (right-within g.W.Word.WIDTH _ (rw c.WIDTH.ensures at c.count_of.ensures) c.in-Right.is)

pub returns-in-Left : goal.returns-in-Left
returns-in-Left g c =
    left-shifted g.W.Word.WIDTH _ _ _ _ (rw c.WIDTH.ensures at c.count_of.ensures) c.in-Left.is (c.plain.ensures ∙ ap plain c.cyclic.ensures)

pub returns-in-Right : goal.returns-in-Right
returns-in-Right g c =
    right-shifted g.W.Word.WIDTH _ _ _ _ (rw c.WIDTH.ensures at c.count_of.ensures) c.in-Right.is
    (c.plain-in-Right.ensures ∙ ap plain (rw c.WIDTH-in-Right.ensures at c.cyclic-in-Right.ensures))

pub returns-in-Beyond : goal.returns-in-Beyond
returns-in-Beyond g c = c.unmoved.ensures ∙ not-shifted g.W.Word.WIDTH _ _ _ _ (rw c.WIDTH.ensures at c.count_of.ensures) c.in-Beyond.is
