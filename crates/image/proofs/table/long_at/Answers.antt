-- The answers to the goals of `image::table::long_at`. Assumes nothing.
use Rattle.std.proofs.Common.{◌≡◌, ◌+◌, arith}
use Rattle.image.specs.Image.{word_at, long_at}
use Rattle.image.proofs.table.long_at.Goals as goal

pub returns : goal.returns
unfolding word_at long_at
returns c = let e : c.args.i + 2 + 1 ≡ c.args.i + 3 = omega arith in rw e (omega arith)
