-- The answers to the goals of `capi::call_run::twin1750_run`. Assumes nothing.
use Rattle.std.proofs.Common.{refl, sym, ap, ◌∙◌}
use Rattle.capi.proofs.CallLaws.{unsized, refused, done}
use Rattle.capi.specs.Calls.{given, running}
use Rattle.machine.specs.Runs.{number_of}
use Rattle.machine.proofs.RunLaws.{number-refused}
use Rattle.capi.proofs.call_run.twin1750_run.Goals as goal

pub returns-then-state-ne-SIZE : goal.returns-then-state-ne-SIZE
unfolding running given
returns-then-state-ne-SIZE c = unsized _ _ _ c.if-state-ne-SIZE.true

pub returns-in-Ok : goal.returns-in-Ok
unfolding running given number_of
returns-in-Ok c =
    let e = c.in-Ok.ensures {u = tt} in
    rw (← c.unpack-given.ensures) (done _ _ _ _ 0 c.if-state-ne-SIZE.false (ap number_of e.0) e.1 refl _ c.pack.ensures)

pub returns-in-Err : goal.returns-in-Err
unfolding running given
returns-in-Err c =
    let e = c.in-Err.ensures {u = tt} in
    let n = c.from.ensures ∙ c.number.ensures in
    rw (← c.unpack-given.ensures) (refused _ _ _ _ _ c.if-state-ne-SIZE.false (n ∙ ap number_of e.0) e.1 (λ z. number-refused _ (sym n ∙ z)))
