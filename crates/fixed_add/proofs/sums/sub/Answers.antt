-- The answers to the goals of `fixed_add::sums::sub`. Assumes nothing.
use Rattle.std.proofs.Common.{◌∙◌, arith}
use Rattle.std.proofs.lemmas.Grind.{common_steps}
use Rattle.fixed_add.proofs.SumLaws.{excess-is, difference-by}
use Rattle.fixed_add.proofs.sums.sub.Goals as goal

pub returns : goal.returns
returns g c =
    let w = g.W.Word in
    let m = g.met.W.Word in
    let x = excess-is w.WIDTH _ m.has_sign c.excess.ensures.fits c.excess.ensures.value in
    let y = excess-is w.WIDTH _ m.has_sign c.excess-2.ensures.fits c.excess-2.ensures.value in
    c.narrow.ensures
    ∙ rw (c.number.ensures.value, c.number-2.ensures.value, m.offset_is)
    (difference-by w.spare w.WIDTH m.has_sign x y c.excess-2.ensures.fits (let o = m.offset_is in grind (arith, common_steps)))
