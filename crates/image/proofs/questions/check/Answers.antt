-- The answers to the goals of `image::questions::check`. Assumes nothing.
use Rattle.std.proofs.Common.{refl}
use Rattle.std.proofs.lemmas.Result.{err_from_is_err_and}
use Rattle.machine.specs.Runs.{asked_all}
use Rattle.image.specs.Image.{admission}
use Rattle.image.proofs.questions.check.Goals as goal

pub returns-in_err-check_sizes : goal.returns-in_err-check_sizes
unfolding admission asked_all
returns-in_err-check_sizes c =
    let p = err_from_is_err_and c.from_residual.result c.from_residual.ensures.1 in
    rw (p.1, p.2, ← c.in_err-check_sizes.ensures {u = tt}) refl

pub returns : goal.returns
unfolding admission asked_all
returns c = rw (← c.in_ok-check_sizes.ensures {u = tt}) c.check_image.ensures
