-- The answers to the goals of `fixed_muldiv::parts::split`. Assumes nothing.
use Rattle.std.proofs.Common.{arith}
use Rattle.twos_complement.proofs.Signs.{parts_low, parts-high}
use Rattle.fixed_muldiv.proofs.parts.split.Goals as goal

pub returns-then-n-SIGN : goal.returns-then-n-SIGN
returns-then-n-SIGN g c =
    let s = g.met.W.Word.sign_is in
    rw c.number-n.ensures.value (parts_low g.W.Word.WIDTH _ (omega arith))

pub returns-else-n-SIGN : goal.returns-else-n-SIGN
returns-else-n-SIGN g c =
    let m = g.met.W.Word in
    let s = m.sign_is in
    rw (c.SIGN-else-n-SIGN.ensures, ← m.all_is, c.number-n.ensures.value) (parts-high g.W.Word.WIDTH _ m.has_sign (omega arith) (omega arith))
