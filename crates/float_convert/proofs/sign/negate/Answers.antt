-- The answers to the goals of `float_convert::sign::negate`. Assumes nothing.
use native.Mathlib.Omega.{arith}
use mathlib.Core.Path.{◌∙◌}
use lib.Dec.{lit≤}
use Rattle.float.proofs.FloatLaws.{whole_float}
use Rattle.float_convert.proofs.SignLaws.{negate-extreme, negate-up, negate_zero, negate-down, negate-else}
use Rattle.float_convert.proofs.sign.negate.Goals as goal

pub returns-then-e-eq255 : goal.returns-then-e-eq255
returns-then-e-eq255 c = c.extreme.ensures ∙ whole_float (negate-extreme 24 (lit≤ tt) _ c.args.a.mantissa.held _ c.in-8388608.is (omega arith))

pub returns-else-e-eq255 : goal.returns-else-e-eq255
returns-else-e-eq255 c = c.plain.ensures ∙ whole_float (negate-up 24 (lit≤ tt) _ c.args.a.mantissa.held _ c.in-8388608.is (λ q. omega arith))

pub returns-then-e-eq0 : goal.returns-then-e-eq0
returns-then-e-eq0 c = c.zero.ensures ∙ whole_float (negate_zero 24 (lit≤ tt) _ c.args.a.mantissa.held _ c.in-4194304.is c.if-e-eq0.true)

pub returns-else-e-eq0 : goal.returns-else-e-eq0
returns-else-e-eq0 c = c.plain-in-4194304.ensures ∙ whole_float (negate-down 24 (lit≤ tt) _ c.args.a.mantissa.held _ c.in-4194304.is c.if-e-eq0.false)

pub returns-in_default : goal.returns-in_default
returns-in_default c = c.plain-in_default.ensures ∙ whole_float (negate-else 24 (lit≤ tt) _ c.args.a.mantissa.held _ (λ q. omega arith) (λ q. omega arith))
