-- The answers to the goals of `program::run_and_report`. Assumes nothing.
use Rattle.std.proofs.Common.{refl}
use borrow.Author.Tests.{ne_eqb}
use Rattle.machine.specs.Runs.{number_of}
use Rattle.machine.proofs.RunLaws.{number-refused}
use Rattle.program.proofs.PrintedLaws.{holds-became}
use Rattle.program.specs.Printed.{unless, ran_text}
use Rattle.program.proofs.run_and_report.Goals as goal

pub returns-in-Ok : goal.returns-in-Ok
unfolding unless ran_text number_of
returns-in-Ok c =
    let e = c.in-Ok.ensures {u = tt} in
    (rw (← e.0, ← e.1.state-is) c.report.ensures, holds-became _ _ e.1 refl)

pub returns-in-Err : goal.returns-in-Err
unfolding unless ran_text
returns-in-Err c =
    let e = c.in-Err.ensures {u = tt} in
    (rw (← e.0, ne_eqb _ _ (number-refused c.in-Err.e), ← c.number.ensures, ← c.from.ensures) c.refusal.ensures, holds-became _ _ e.1 refl)
