-- The answers to the goals of `report::put_line`. Assumes nothing.
use Rattle.std.proofs.Common.{append_assoc}
use Rattle.report.specs.Report.{registers_line}
use Rattle.report.proofs.put_line.Goals as goal

pub returns-clause-text : goal.returns-clause-text
unfolding registers_line
returns-clause-text g c = rw (c.push-3.ensures.items, c.put_registers.ensures.text, c.push-2.ensures.items, c.push.ensures.items, c.digit.ensures) (simp append_assoc)
