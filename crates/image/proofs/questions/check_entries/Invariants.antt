-- What the loop keeps, of `image::questions::check_entries`. Assumes nothing.
use Rattle.std.proofs.Common.{◌≡◌, ◌-◌}
use Rattle.image.specs.Image.{entries_answer}
use Rattle.image.proofs.questions.check_entries.Given as goal

abbrev pub invariant-loop-k : goal.invariant-loop-k
invariant-loop-k l = entries_answer l.memory l.image l.n 0 ≡ entries_answer l.memory l.image (l.n - l.k) l.k
