-- The answers to the goals of `word::compare::below`. Assumes nothing.
use Rattle.std.proofs.Common.{arith}
use Rattle.std.proofs.lemmas.Grind.{common_steps}
use Rattle.word.proofs.CompareLaws.{turned-by}
use Rattle.word.proofs.compare.below.Goals as goal

pub returns : goal.returns
returns g c = turned-by g.W.Word.WIDTH _ _ g.met.W.Word.has_sign c.excess.ensures.fits c.excess-2.ensures.fits (grind (arith, common_steps)) (grind (arith, common_steps))
