-- The answers to the goals of `float::mantissa::Mantissa::loses`. Assumes nothing.
use Rattle.float.proofs.MantissaLaws.{lost-all, lost-low}
use Rattle.float.proofs.mantissa.Mantissa.loses.Goals as goal

pub returns-then-n : goal.returns-then-n
returns-then-n g c = lost-all _ _ _ c.args.self.held c.if-n.true

pub returns : goal.returns
returns g c = lost-low _ _ _ c.args.self.held _ c.if-n.false c.low.ensures
