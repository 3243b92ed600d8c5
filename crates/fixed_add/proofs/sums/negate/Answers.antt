-- The answers to the goals of `fixed_add::sums::negate`. Assumes nothing.
use Rattle.std.proofs.Common.{◌∙◌}
use Rattle.fixed_add.proofs.SumLaws.{excess-is, negated-is}
use Rattle.fixed_add.proofs.sums.negate.Goals as goal

pub returns : goal.returns
returns g c =
    let w = g.W.Word in
    let m = g.met.W.Word in
    c.narrow.ensures
    ∙ rw (c.OFFSET.ensures, c.SIGN.ensures, m.sign_is, m.offset_is)
    (negated-is w.spare w.WIDTH m.has_sign (excess-is w.WIDTH _ m.has_sign c.excess.ensures.fits c.excess.ensures.value))
