-- The answers to the goals of `image::table::count`. Assumes nothing.
use Rattle.std.proofs.Common.{rules}
use Rattle.image.specs.Image.{count_of}
use Rattle.image.proofs.table.count.Goals as goal

pub returns : goal.returns
unfolding count_of
returns c = search rules
