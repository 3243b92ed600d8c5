-- The answers to the goals of `test_case::output::put_all_changes`. Assumes nothing.
use Rattle.text.proofs.WroteLaws.{then}
use Rattle.test_case.proofs.output.put_all_changes.Goals as goal

pub returns : goal.returns
returns c = then c.put_changes-at.ensures.0 (then c.put_changes-at-2.ensures.0 c.put_changes.ensures.0)
