-- The answers to the goals of `image::table::end`. Assumes nothing.
use Rattle.std.proofs.Common.{arith}
use Rattle.image.specs.Image.{end_of}
use Rattle.image.proofs.table.end.Goals as goal

pub returns : goal.returns
unfolding end_of
returns c = omega arith
