-- The answers to the goals of `float_convert::convert::fix`. Assumes nothing.
use Prim.Native.Nat.{◌-◌}
use native.Mathlib.Omega.{arith}
use Rattle.float_convert.proofs.ConvertLaws.{fixed-over, fixed-width, fixed-fits}
use Rattle.float_convert.proofs.convert.fix.Goals as goal

pub returns-then-n-e : goal.returns-then-n-e
returns-then-n-e g c = fixed-over _ _ _ _ _ c.if-n-e.true c.requires.2

pub overflow_cast-result : goal.overflow_cast-result
overflow_cast-result g c = record { fits = fixed-fits (g.row.W - 8) _ _ (let p = c.requires.1 in omega arith) c.low.ensures }

pub returns : goal.returns
returns g c = fixed-width (g.row.W - 8) g.row.W _ _ _ _ _ (let p = c.requires.0 in omega arith) c.if-n-e.false c.truncate-t.ensures c.low.ensures
