-- The answers to the goals of `image_load::load`. Assumes nothing.
use Rattle.std.proofs.Common.{sym}
use borrow.Author.Tests.{eqb-true, eqb-false}
use Rattle.std.proofs.lemmas.Result.{err_from_is_err_and}
use Rattle.image.proofs.SoundLaws.{ready}
use Rattle.image_load.proofs.LoadLaws.{refused, bare, accepted}
use Rattle.image_load.proofs.load.Goals as goal

pub returns-in_err-check : goal.returns-in_err-check
returns-in_err-check c =
    let p = err_from_is_err_and c.from_residual.result c.from_residual.ensures.1 in
    rw (p.1, p.2) (refused _ _ _ _ _ _ (c.in_err-check.ensures {u = tt}))

pub returns-then-is_empty : goal.returns-then-is_empty
returns-then-is_empty c = bare _ _ _ _ _ (c.in_ok-check.ensures {u = tt}) _ _ _ _ c.reset-fresh.ensures (eqb-true _ _ (sym (c.if-is_empty.ensures {u = tt})))

pub write_bodies-requires : goal.write_bodies-requires
write_bodies-requires c = ready _ _ _ _ (c.in_ok-check.ensures {u = tt}) (eqb-false _ _ (sym (c.if-is_empty.ensures {u = tt}))) _ _ c.reset-fresh.auto.memory c.reset-fresh.auto.pages

pub returns : goal.returns
returns c = accepted _ _ _ _ _ (c.in_ok-check.ensures {u = tt}) _ _ _ _ c.reset-fresh.ensures (eqb-false _ _ (sym (c.if-is_empty.ensures {u = tt}))) _ _ _ (c.write_bodies.ensures _)
