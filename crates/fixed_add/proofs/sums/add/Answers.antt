-- The answers to the goals of `fixed_add::sums::add`. Assumes nothing.
use Rattle.std.proofs.Common.{◌∙◌}
use Rattle.fixed_add.proofs.SumLaws.{excess-is, sum_is}
use Rattle.fixed_add.proofs.sums.add.Goals as goal

pub returns : goal.returns
returns g c =
    let w = g.W.Word in
    let m = g.met.W.Word in
    let x = excess-is w.WIDTH _ m.has_sign c.excess.ensures.fits c.excess.ensures.value in
    let y = excess-is w.WIDTH _ m.has_sign c.excess-2.ensures.fits c.excess-2.ensures.value in
    c.narrow.ensures
    ∙ rw (c.SIGN.ensures, c.SIGN-2.ensures, ← m.all_is, c.number.ensures.value, c.number-2.ensures.value, c.OFFSET.ensures, m.offset_is)
    (sum_is w.spare w.WIDTH m.has_sign x y)
