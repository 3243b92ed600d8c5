-- The answers to the goals of `image::table::word_at`. Assumes nothing.
use Rattle.std.proofs.Common.{arith}
use Rattle.image.specs.Image.{word_at}
use Rattle.image.proofs.table.word_at.Goals as goal

pub returns : goal.returns
unfolding word_at
returns c = omega arith
