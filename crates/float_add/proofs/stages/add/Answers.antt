-- The answers to the goals of `float_add::stages::add`. Assumes nothing.
use mathlib.Core.Path.{ap, ◌∙◌}
use Rattle.float.specs.Float.{given}
use Rattle.float_add.proofs.AddLaws.{sum_fits, added}
use Rattle.float_add.proofs.stages.add.Goals as goal

pub overflow_add-x : goal.overflow_add-x
overflow_add-x g c = record { fits = sum_fits _ _ _ c.args.a.mantissa.width.1 c.shift-x.ensures.small c.shift-y.ensures.small }

pub returns : goal.returns
returns g c =
    c.fit.ensures
    ∙ ap (given _)
    (added _ _ _ _ _ _ _ _ _ _ c.args.a.mantissa.width.0 c.args.a.mantissa.held c.args.b.mantissa.held c.common-e.ensures.0
    c.gap.ensures c.gap-2.ensures c.shift-x.ensures c.shift-y.ensures)
