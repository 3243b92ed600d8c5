-- The answers to the goals of `run::run`. Assumes nothing.
use Rattle.std.proofs.Common.{sym}
use Rattle.std.proofs.lemmas.Result.{err_from_is_err_and}
use Rattle.isa.specs.Mil1750.{mil1750}
use Rattle.machine.proofs.MachineLaws.{machine-became}
use Rattle.machine.proofs.RunLaws.{accepted-left, denied-left}
use Rattle.machine.specs.Machine.{machine}
use Rattle.machine.specs.Runs.{run_of, answer_of}
use Rattle.std.proofs.lemmas.Option.{MatchOption-at_some}
use Rattle.run.proofs.AskLaws.{admitted}
use Rattle.run.proofs.run.Goals as goal

pub returns-in_err-ask : goal.returns-in_err-ask
unfolding answer_of
returns-in_err-ask c =
    let p = err_from_is_err_and c.from_residual.result c.from_residual.ensures.1 in
    let q = c.in_err-ask.ensures {u = tt} in
    rw (p.1, p.2) (q, machine-became (sym (denied-left mil1750 (machine c.args.state c.args.memory.now c.args.pages.now c.args.ports.now) (run_of c.args.budget c.args.durations.now) _ (sym q))))

pub unwrap-pages-requires : goal.unwrap-pages-requires
unwrap-pages-requires c = c.as_mut_array.ensures.variant.1 (admitted _ _ _ _ _ _ (sym (c.in_ok-ask.ensures {u = tt}))).0

pub unwrap-ports-requires : goal.unwrap-ports-requires
unwrap-ports-requires c = c.as_mut_array-2.ensures.variant.1 (admitted _ _ _ _ _ _ (sym (c.in_ok-ask.ensures {u = tt}))).1

pub unwrap-durations-requires : goal.unwrap-durations-requires
unwrap-durations-requires c = c.try_from.ensures.0 (admitted _ _ _ _ _ _ (sym (c.in_ok-ask.ensures {u = tt}))).2

pub run_steps-last-requires : goal.run_steps-last-requires
run_steps-last-requires c = c.table-table.ensures

pub returns : goal.returns
unfolding answer_of
returns c =
    let q = c.in_ok-ask.ensures {u = tt} in
    let lent = rw c.unwrap-durations.ensures at c.try_from.ensures.1 in
    let pages = MatchOption-at_some _ _ _ c.unwrap-pages.ensures c.as_mut_array.ensures.cases in
    let ports = MatchOption-at_some _ _ _ c.unwrap-ports.ensures c.as_mut_array-2.ensures.cases in
    (q, rw (accepted-left mil1750 (machine c.args.state c.args.memory.now c.args.pages.now c.args.ports.now) (run_of c.args.budget c.args.durations.now) _ (sym q)) (rw (lent.same, pages.same, ports.same) at c.run_steps-last.ensures c.args.state))
