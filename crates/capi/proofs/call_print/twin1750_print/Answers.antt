-- The answers to the goals of `capi::call_print::twin1750_print`. Assumes nothing.
use Rattle.capi.proofs.LineCallLaws.{print-done, print-refused}
use Rattle.capi.proofs.call_print.twin1750_print.Goals as goal

pub returns-in-Some : goal.returns-in-Some
returns-in-Some c = print-done _ _ _ _ _ c.in-Some.ensures

pub returns-in-None : goal.returns-in-None
returns-in-None c = print-refused _ _ _ _ c.in-None.ensures
