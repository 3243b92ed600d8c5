-- The answers to the goals of `image::questions::shares`. Assumes nothing.
use Rattle.std.proofs.Common.{arith}
use Rattle.std.proofs.lemmas.Grind.{common_steps}
use Rattle.image.specs.Image.{share}
use Rattle.image.proofs.questions.shares.Goals as goal

pub returns-then-from-end : goal.returns-then-from-end
unfolding share
returns-then-from-end c = grind (arith, common_steps)

pub returns-else-from-end : goal.returns-else-from-end
unfolding share
returns-else-from-end c = grind (arith, common_steps)
