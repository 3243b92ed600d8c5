-- The answers to the goals of `float_convert::sign::absolute`. Assumes nothing.
use mathlib.Core.Path.{ap, ◌∙◌}
use lib.Dec.{lit≤}
use Rattle.float.specs.Float.{given}
use Rattle.float.proofs.FloatLaws.{whole_float}
use Rattle.float_convert.proofs.SignLaws.{absolute-low, absolute-high}
use Rattle.float_convert.proofs.sign.absolute.Goals as goal

pub returns-then-a-lt8388608 : goal.returns-then-a-lt8388608
returns-then-a-lt8388608 c = c.plain.ensures ∙ whole_float (absolute-low 24 (lit≤ tt) _ c.args.a.mantissa.held _ c.if-a-lt8388608.true)

pub returns : goal.returns
returns c = c.negate.ensures ∙ ap (given 24) (absolute-high 24 (lit≤ tt) _ c.args.a.mantissa.held _ c.if-a-lt8388608.false)
