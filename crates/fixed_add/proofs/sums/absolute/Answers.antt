-- The answers to the goals of `fixed_add::sums::absolute`. Assumes nothing.
use Rattle.std.proofs.Common.{◌∙◌, arith}
use Rattle.fixed_add.proofs.SumLaws.{absolute-low, absolute-high}
use Rattle.fixed_add.proofs.sums.absolute.Goals as goal

pub returns-then-number-SIGN : goal.returns-then-number-SIGN
returns-then-number-SIGN g c =
    let s = g.met.W.Word.sign_is in
    c.narrow.ensures
    ∙ rw (c.number-then-number-SIGN.ensures.value, c.OFFSET.ensures)
    (absolute-low g.W.Word.WIDTH _ _ (omega arith))

pub returns-else-number-SIGN : goal.returns-else-number-SIGN
returns-else-number-SIGN g c =
    let s = g.met.W.Word.sign_is in
    c.negate.ensures ∙ absolute-high g.W.Word.WIDTH _ (omega arith)
