-- The answers to the goals of `image::table::words_before`. Assumes nothing.
use Rattle.std.proofs.Common.{arith, refl}
use Rattle.image.specs.Image.{words_before}
use Rattle.image.proofs.QuestionLaws.{words_more}
use Rattle.image.proofs.table.words_before.Goals as goal

pub loop-k-init : goal.loop-k-init
unfolding words_before
loop-k-init c = (refl, omega arith)

pub loop-k-preserved : goal.loop-k-preserved
loop-k-preserved c = (rw (words_more, ← c.loop-k.invariant.0, ← c.entry_at.ensures) refl, omega arith)
