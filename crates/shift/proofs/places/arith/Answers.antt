-- The answers to the goals of `shift::places::arith`. Assumes nothing.
use Rattle.std.proofs.Common.{◌∙◌, arith}
use Rattle.twos_complement.proofs.Shifts.{arith-low, arith-high}
use Rattle.shift.proofs.places.arith.Goals as goal

pub returns-then-number-SIGN : goal.returns-then-number-SIGN
returns-then-number-SIGN g c =
    let m = g.met.W.Word in
    let s = m.sign_is in
    c.right.ensures ∙ arith-low g.W.Word.WIDTH _ _ m.has_sign (omega arith)

pub returns-else-number-SIGN : goal.returns-else-number-SIGN
returns-else-number-SIGN g c =
    let s = g.met.W.Word.sign_is in
    rw (c.complement-else-number-SIGN.ensures, c.right-else-number-SIGN.ensures, c.complement.ensures)
    (arith-high g.W.Word.WIDTH _ _ (omega arith) (omega arith))
