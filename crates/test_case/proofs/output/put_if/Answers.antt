-- The answers to the goals of `test_case::output::put_if`. Assumes nothing.
use Rattle.test_case.specs.Session.{said_if}
use Rattle.text.proofs.WroteLaws.{wrote_none}
use Rattle.std.proofs.Common.{arith}
use Rattle.test_case.proofs.output.put_if.Goals as goal

pub returns-then-said : goal.returns-then-said
unfolding said_if
returns-then-said c = rw c.if-said.true c.put_message.ensures

pub returns : goal.returns
unfolding said_if
returns c = rw c.if-said.false (wrote_none _ _, omega arith)
