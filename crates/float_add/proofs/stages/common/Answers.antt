-- The answers to the goals of `float_add::stages::common`. Assumes nothing.
use native.Mathlib.Omega.{arith}
use Rattle.float_add.proofs.AddLaws.{common-b, common-a, common-max}
use Rattle.float_add.proofs.stages.common.Goals as goal

pub returns-then-b-eq0 : goal.returns-then-b-eq0
returns-then-b-eq0 g c = (common-b c.args.a.mantissa.bits _ _ c.args.b.exponent c.if-b-eq0.true, c.args.a.eight)

pub returns-then-a-eq0 : goal.returns-then-a-eq0
returns-then-a-eq0 g c = (common-a _ _ _ _ c.if-b-eq0.false c.if-a-eq0.true, c.args.b.eight)

pub returns : goal.returns
returns g c = (common-max _ _ _ _ c.if-b-eq0.false c.if-a-eq0.false _ c.max.ensures, omega (arith, c.args.a.eight, c.args.b.eight))
