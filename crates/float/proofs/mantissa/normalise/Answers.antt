-- The answers to the goals of `float::mantissa::normalise`. Assumes nothing.
use mathlib.Core.Path.{◌∙◌}
use native.Mathlib.Omega.{arith}
use Rattle.float.proofs.FloatLaws.{norm-zero, norm-under, norm-done, whole_float}
use Rattle.float.proofs.MantissaLaws.{moved}
use Rattle.float.proofs.mantissa.normalise.Goals as goal

pub returns-then-m-eq0 : goal.returns-then-m-eq0
returns-then-m-eq0 c = c.zero.ensures ∙ whole_float (norm-zero _ _ _ c.requires.0 c.requires.2 c.if-m-eq0.true)

pub returns-then-e-d : goal.returns-then-e-d
returns-then-e-d c = c.zero-then-e-d.ensures ∙ whole_float (norm-under _ _ _ c.requires.0 c.requires.2 c.if-m-eq0.false _ c.distance-d.ensures.0 (omega arith))

pub returns : goal.returns
returns c = c.plain.ensures ∙ whole_float (rw (moved _ _ _ _ c.requires.1 c.low.ensures) (norm-done _ _ _ c.requires.0 c.requires.2 c.if-m-eq0.false _ c.distance-d.ensures.0 _ (omega arith)))
