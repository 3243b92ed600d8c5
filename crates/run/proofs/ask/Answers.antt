-- The answers to the goals of `run::ask`. Assumes nothing.
use Rattle.std.proofs.Common.{◌+◌, ◌<◌, ◌≤◌, refl, arith}
use Rattle.std.proofs.lemmas.Grind.{common_steps}
use Rattle.std.proofs.lemmas.Result.{err_from_is_err_and}
use borrow.Author.Tests.{eq-eqb, ne_eqb, le-leb, lt-leb}
use Rattle.machine.specs.Runs.{admission, asked, asked_all}
use Rattle.run.proofs.ask.Goals as goal

pub returns-in_err-check_sizes : goal.returns-in_err-check_sizes
unfolding admission asked_all
returns-in_err-check_sizes c =
    let p = err_from_is_err_and c.from_residual.result c.from_residual.ensures.1 in
    rw (p.1, p.2, ← c.in_err-check_sizes.ensures {u = tt}) refl

pub returns-then-durations-ne257 : goal.returns-then-durations-ne257
unfolding admission asked asked_all
returns-then-durations-ne257 c = rw (← c.in_ok-check_sizes.ensures {u = tt}, ne_eqb _ _ c.if-durations-ne257.true) refl

pub returns-then-budget-gt1000000 : goal.returns-then-budget-gt1000000
unfolding admission asked asked_all
returns-then-budget-gt1000000 c = rw (← c.in_ok-check_sizes.ensures {u = tt}, eq-eqb _ _ c.if-durations-ne257.false, lt-leb _ _ c.if-budget-gt1000000.true) refl

pub returns-then-is_none : goal.returns-then-is_none
unfolding admission asked asked_all
returns-then-is_none c =
    let h : 4294967295 < c.args.count + c.args.budget = grind (arith, common_steps) in
    rw (← c.in_ok-check_sizes.ensures {u = tt}, eq-eqb _ _ c.if-durations-ne257.false, le-leb _ _ c.if-budget-gt1000000.false, lt-leb _ _ h) refl

pub returns : goal.returns
unfolding admission asked asked_all
returns c =
    let h : c.args.count + c.args.budget ≤ 4294967295 = grind (arith, common_steps) in
    rw (← c.in_ok-check_sizes.ensures {u = tt}, eq-eqb _ _ c.if-durations-ne257.false, le-leb _ _ c.if-budget-gt1000000.false, le-leb _ _ h) refl
