-- The answers to the goals of `report::put_steps`. Assumes nothing.
use Rattle.std.proofs.Common.{append_assoc}
use Rattle.report.specs.Report.{steps_line}
use Rattle.report.proofs.put_steps.Goals as goal

pub returns-clause-text : goal.returns-clause-text
unfolding steps_line
returns-clause-text g c = rw (c.push.ensures.items, c.put_decimal.ensures.text, c.put_bytes.ensures.text) (simp append_assoc)
