-- The answers to the goals of `shift::places::sign_changes`. Assumes nothing.
use Rattle.std.proofs.Common.{arith}
use Rattle.shift.proofs.ShiftLaws.{low-shifted, high-shifted-by}
use Rattle.shift.proofs.places.sign_changes.Goals as goal

pub returns-then-x-SIGN : goal.returns-then-x-SIGN
returns-then-x-SIGN g c =
    let m = g.met.W.Word in
    let s = m.sign_is in
    let l = m.at_most_32 in
    rw (c.SIGN-then-x-SIGN.ensures, m.sign_is, c.number-x.ensures.value)
    (low-shifted 64 _ _ _ (omega arith) c.requires (omega arith) (omega arith))

pub returns-else-x-SIGN : goal.returns-else-x-SIGN
returns-else-x-SIGN g c =
    let m = g.met.W.Word in
    let s = m.sign_is in
    let l = m.at_most_32 in
    let d = m.all_is in
    rw c.number-x.ensures.value (high-shifted-by 64 _ _ _ m.has_sign (omega arith) c.requires (omega arith) (omega arith) (omega arith) (omega arith))
