-- The answers to the goals of `capi::call_load::twin1750_load`. Assumes nothing.
use Rattle.std.proofs.Common.{refl, sym, ap, ◌∙◌, arith}
use Rattle.capi.proofs.CallLaws.{unsized, refused, done}
use Rattle.capi.specs.Calls.{given, loading}
use Rattle.image.specs.Image as image
use Rattle.image.proofs.SoundLaws.{number-refused}
use Rattle.capi.proofs.call_load.twin1750_load.Goals as goal

pub returns-then-state-ne-SIZE : goal.returns-then-state-ne-SIZE
unfolding loading given
returns-then-state-ne-SIZE c = unsized _ _ _ (λ q. omega arith)

pub returns-in-Ok : goal.returns-in-Ok
unfolding loading given
returns-in-Ok c =
    let e = c.in-Ok.ensures {u = tt} in
    rw (← c.unpack-given.ensures) (done _ _ _ _ 0 (omega arith) (ap image.number_of e.answer-is) e.became refl _ c.pack.ensures)

pub returns-in-Err : goal.returns-in-Err
unfolding loading given
returns-in-Err c =
    let e = c.in-Err.ensures {u = tt} in
    let n = c.from.ensures ∙ c.number.ensures in
    rw (← c.unpack-given.ensures) (refused _ _ _ _ _ (omega arith) (n ∙ ap image.number_of e.answer-is) e.became (λ z. number-refused _ (sym n ∙ z)))
