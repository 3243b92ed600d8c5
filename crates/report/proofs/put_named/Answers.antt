-- The answers to the goals of `report::put_named`. Assumes nothing.
use Rattle.std.proofs.Common.{append_assoc}
use Rattle.report.specs.Report.{named}
use Rattle.report.proofs.put_named.Goals as goal

pub returns-clause-text : goal.returns-clause-text
unfolding named
returns-clause-text g c = rw (c.push.ensures.items, c.put_hex.ensures.text, c.put_bytes.ensures.text) (simp append_assoc)
