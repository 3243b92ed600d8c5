-- The answers to the goals of `shift::places::right`. Assumes nothing.
use Rattle.std.proofs.Common.{arith}
use Rattle.shift.proofs.ShiftLaws.{right-wide}
use Rattle.shift.proofs.places.right.Goals as goal

pub returns : goal.returns
returns g c = rw (c.kept.ensures, c.number.ensures.value) (right-wide g.W.Word.WIDTH _ _ (omega arith))
