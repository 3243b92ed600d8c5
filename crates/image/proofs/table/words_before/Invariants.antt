-- What the loop keeps, of `image::table::words_before`. Assumes nothing.
use Rattle.std.proofs.Common.{◌≡◌, ◌*◌, ◌≤◌}
use Rattle.image.specs.Image.{words_before}
use Rattle.image.proofs.table.words_before.Given as goal

abbrev pub invariant-loop-k : goal.invariant-loop-k
invariant-loop-k l = (l.total ≡ words_before l.image l.k) × (l.total ≤ 4294967296 * l.k)
