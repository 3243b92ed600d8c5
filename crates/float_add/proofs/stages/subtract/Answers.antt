-- The answers to the goals of `float_add::stages::subtract`. Assumes nothing.
use mathlib.Core.Path.{ap, ◌∙◌}
use Rattle.float.specs.Float.{given}
use Rattle.float_add.proofs.AddLaws.{subtracted}
use Rattle.float_add.proofs.stages.subtract.Goals as goal

pub returns : goal.returns
returns g c =
    c.fit.ensures
    ∙ ap (given _)
    (subtracted _ _ _ _ _ _ _ _ _ _ c.args.a.mantissa.width.0 c.args.a.mantissa.held c.args.b.mantissa.held c.common-e.ensures.0
    c.gap.ensures c.gap-2.ensures c.shift-x.ensures c.shift-y.ensures c.half-h.ensures)
