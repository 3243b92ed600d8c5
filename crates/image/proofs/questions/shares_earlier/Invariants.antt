-- What the loop keeps, of `image::questions::shares_earlier`. Assumes nothing.
use Rattle.std.proofs.Common.{◌≡◌, false}
use Rattle.image.specs.Image.{shares_earlier}
use Rattle.image.proofs.questions.shares_earlier.Given as goal

abbrev pub invariant-loop-i : goal.invariant-loop-i
invariant-loop-i l = shares_earlier l.image l.e l.i ≡ false
