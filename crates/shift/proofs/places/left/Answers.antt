-- The answers to the goals of `shift::places::left`. Assumes nothing.
use Rattle.std.proofs.Common.{arith}
use Rattle.std.proofs.lemmas.Grind.{common_steps}
use Rattle.shift.proofs.ShiftLaws.{left-wide-by}
use Rattle.shift.proofs.places.left.Goals as goal

pub returns : goal.returns
returns g c =
    let m = g.met.W.Word.at_most_32 in
    rw c.kept.ensures (left-wide-by 64 _ _ _ (omega arith) (grind (arith, common_steps)))
