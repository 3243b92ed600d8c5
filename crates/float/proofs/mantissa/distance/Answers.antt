-- The answers to the goals of `float::mantissa::distance`. Assumes nothing.
use native.Mathlib.Omega.{arith}
use Rattle.float.proofs.FloatLaws.{distance-lt}
use Rattle.float.proofs.MantissaLaws.{leading_zeros}
use Rattle.float.proofs.mantissa.distance.Goals as goal

pub overflow_sub-result-2 : goal.overflow_sub-result-2
overflow_sub-result-2 c = let p = c.requires in omega (arith, leading_zeros _ _ _ p.0 p.1 p.2 p.3 c.complement.ensures)

pub returns : goal.returns
returns c = let p = c.requires in omega (arith, leading_zeros _ _ _ p.0 p.1 p.2 p.3 c.complement.ensures, distance-lt _ _ p.0 p.2 p.3)
