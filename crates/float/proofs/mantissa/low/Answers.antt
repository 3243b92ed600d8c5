-- The answers to the goals of `float::mantissa::low`. Assumes nothing.
use native.Mathlib.Omega.{arith}
use lib.Pow.{pow_pos}
use Rattle.float.proofs.MantissaLaws.{power, low_bits}
use Rattle.float.proofs.mantissa.low.Goals as goal

pub overflow_sub-result : goal.overflow_sub-result
overflow_sub-result c = omega (arith, power c.args.n c.requires, pow_pos c.args.n)

pub returns : goal.returns
returns c = low_bits _ _ c.requires
