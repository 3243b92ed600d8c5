-- The answers to the goals of `float_exact::largest`. Assumes nothing.
use Rattle.twos_complement.specs.Whole.{wrap, with_sign}
use Rattle.float.specs.Float.{given, overflowed}
use Rattle.float_exact.proofs.largest.Goals as goal

pub returns-then-neg : goal.returns-then-neg
unfolding given wrap overflowed with_sign
returns-then-neg c = rw c.if-neg.true c.extreme.ensures

pub returns : goal.returns
unfolding given wrap overflowed with_sign
returns c = rw c.if-neg.false c.extreme-2.ensures
