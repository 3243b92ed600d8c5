-- The answers to the goals of `float::mantissa::half`. Assumes nothing.
use Rattle.float.proofs.MantissaLaws.{half-weight}
use Rattle.float.proofs.mantissa.half.Goals as goal

pub returns : goal.returns
returns c = half-weight _ c.requires.0 c.requires.1
