-- The answers to the goals of `float_exact::magnitude`. Assumes nothing.
use lib.Dec.{lit≤}
use Rattle.twos_complement.proofs.Signs.{parts_low, parts-high}
use Rattle.float_exact.proofs.magnitude.Goals as goal

pub returns-then-a-lt549755813888 : goal.returns-then-a-lt549755813888
returns-then-a-lt549755813888 c = (parts_low 40 _ c.if-a-lt549755813888.true).size

pub returns : goal.returns
returns c = (parts-high 40 _ (lit≤ tt) c.if-a-lt549755813888.false c.args.a.held).size
