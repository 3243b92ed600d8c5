-- The answers to the goals of `report::put_control`. Assumes nothing.
use Rattle.std.proofs.Common.{append_assoc}
use Rattle.report.specs.Report.{control_line}
use Rattle.report.proofs.put_control.Goals as goal

pub returns-clause-text : goal.returns-clause-text
unfolding control_line
returns-clause-text g c = rw (c.put_named-5.ensures.text, c.put_named-4.ensures.text, c.put_named-3.ensures.text, c.put_named-2.ensures.text, c.put_named.ensures.text) (simp append_assoc)
