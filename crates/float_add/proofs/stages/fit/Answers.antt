-- The answers to the goals of `float_add::stages::fit`. Assumes nothing.
use mathlib.Core.Path.{ap, ◌∙◌}
use Rattle.float.specs.Float.{given}
use Rattle.float_add.proofs.AddLaws.{fit_low, fit-high, fit-held}
use Rattle.float_add.proofs.stages.fit.Goals as goal
use Rattle.float_add.proofs.stages.fit.Goals.{then-s-h-via-then-s-h, then-s-h-via-else-s-h+then-h-s}

pub returns-then-s-h : goal.returns-then-s-h
returns-then-s-h g c =
    c.finish.ensures ∙ ap (given _)
    (elim c.then-s-h.branch [ then-s-h-via-then-s-h w ↦ fit_low c.half-h.ensures _ _ w.if-s-h.true | then-s-h-via-else-s-h+then-h-s w ↦ fit-high c.half-h.ensures _ _ w.if-h-s.true ])

pub returns : goal.returns
returns g c = c.finish-2.ensures ∙ ap (given _) (fit-held c.half-h.ensures _ _ c.if-s-h.false c.if-h-s.false)
