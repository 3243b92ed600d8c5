-- The answers to the goals of `line_table::filled`. Assumes nothing.
use Rattle.line_table.proofs.NameLaws.{filled-over}
use Rattle.line_table.proofs.filled.Goals as goal

pub returns : goal.returns
returns c = rw c.copy_from_slice.ensures.after (filled-over c.args.text.now c.requires)
