-- The answers to the goals of `report::put_report`. Assumes nothing.
use Rattle.std.proofs.Common.{append_assoc}
use Rattle.report.specs.Report.{report_of}
use Rattle.report.proofs.put_report.Goals as goal

pub returns-clause-text : goal.returns-clause-text
unfolding report_of
returns-clause-text g c = rw (c.put_line-2.ensures.text, c.put_line.ensures.text, c.put_control.ensures.text, c.put_steps.ensures.text) (simp append_assoc)
