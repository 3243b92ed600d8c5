-- The answers to the goals of `shift::places::cyclic`. Assumes nothing.
use Rattle.std.proofs.Common.{arith}
use Rattle.shift.proofs.ShiftLaws.{around}
use Rattle.shift.proofs.places.cyclic.Goals as goal

pub returns : goal.returns
returns g c =
    let m = g.met.W.Word.at_most_32 in
    rw (c.kept.ensures, c.number-x.ensures.value, c.WIDTH.ensures) (around 64 _ _ _ (omega arith) c.requires (omega arith))
