-- The answers to the goals of `line::print`. Assumes nothing.
use Rattle.std.proofs.Common.{rules}
use Rattle.line.proofs.CodeLaws.{shows-none, shows-some}
use Rattle.line.proofs.print.Goals as goal

pub returns-in_err-text : goal.returns-in_err-text
returns-in_err-text c = rw c.from_residual.ensures (shows-none _ _ (search rules))

pub returns : goal.returns
returns c = shows-some _ _ _ _ _ (search rules) c.show.ensures
