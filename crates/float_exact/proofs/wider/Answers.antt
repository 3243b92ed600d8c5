-- The answers to the goals of `float_exact::wider`. Assumes nothing.
use lib.Dec.{lit≤}
use Rattle.float_exact.proofs.StepLaws.{wide}
use Rattle.float_exact.proofs.wider.Goals as goal

pub returns : goal.returns
returns g c = (wide 40 _ _ c.requires (lit≤ tt) c.args.a.held).0

pub invariant_of-result-clause-held : goal.invariant_of-result-clause-held
invariant_of-result-clause-held g c = (wide 40 _ _ c.requires (lit≤ tt) c.args.a.held).1
