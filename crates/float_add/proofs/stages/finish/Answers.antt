-- The answers to the goals of `float_add::stages::finish`. Assumes nothing.
use mathlib.Core.Path.{ap, ◌∙◌}
use native.Mathlib.Omega.{arith}
use Rattle.float.specs.Float.{given}
use Rattle.float.proofs.FloatLaws.{whole_float}
use Rattle.float_add.proofs.AddLaws.{done, over-low, over-high}
use Rattle.float_add.proofs.stages.finish.Goals as goal

pub returns-then-e-le255 : goal.returns-then-e-le255
returns-then-e-le255 g c = c.normalise.ensures ∙ ap (given _) (done _ _ c.bits.ensures (omega arith))

pub returns-then-x-h : goal.returns-then-x-h
returns-then-x-h g c = c.extreme.ensures ∙ whole_float (over-low c.half-h.ensures _ _ (omega arith) (let p = c.requires.0 in omega arith) c.if-x-h.true)

pub returns : goal.returns
returns g c = c.extreme-2.ensures ∙ whole_float (over-high c.half-h.ensures _ _ (omega arith) c.if-x-h.false)
