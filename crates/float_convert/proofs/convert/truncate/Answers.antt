-- The answers to the goals of `float_convert::convert::truncate`. Assumes nothing.
use native.Mathlib.Omega.{arith}
use Rattle.float.proofs.MantissaLaws.{lost-yes, lost-no}
use Rattle.float_convert.proofs.ConvertLaws.{truncate-low, truncate-exact, truncate-next, truncate-lost}
use Rattle.float_convert.proofs.convert.truncate.Goals as goal

pub returns-then-m-half : goal.returns-then-m-half
returns-then-m-half g c = truncate-low c.half.ensures _ _ _ c.args.m.held c.shift-x.ensures _ c.if-m-half.true (c.bits.ensures, c.bits.result.held)

pub bits-requires-then-loses : goal.bits-requires-then-loses
bits-requires-then-loses g c = (omega arith, (c.args.m.width.0, c.args.m.width.1, omega (arith, truncate-next c.half.ensures _ _ _ c.args.m.held c.shift-x.ensures c.if-m-half.false)))

pub returns-then-loses : goal.returns-then-loses
returns-then-loses g c = truncate-lost c.half.ensures _ _ _ c.args.m.held c.shift-x.ensures c.if-m-half.false _ (lost-yes _ c.loses.ensures c.if-loses.true) (c.bits-then-loses.ensures, c.bits-then-loses.result.held)

pub returns : goal.returns
returns g c = truncate-exact c.half.ensures _ _ _ c.args.m.held c.shift-x.ensures c.if-m-half.false _ (lost-no _ c.loses.ensures c.if-loses.false) (c.bits-2.ensures, c.bits-2.result.held)
