-- The answers to the goals of `test_case_line::output::entry_line`. Assumes nothing.
use Rattle.std.proofs.Common.{append_assoc}
use Rattle.test_case_line.specs.Texts.{entry_line}
use Rattle.test_case_line.proofs.output.entry_line.Goals as goal

pub returns-clause-text : goal.returns-clause-text
unfolding entry_line
returns-clause-text c = rw (c.push-4.ensures.items, c.put_hex-2.ensures.text, c.push-3.ensures.items, c.put_hex.ensures.text, c.push-2.ensures.items, c.push.ensures.items, c.new-text.ensures) (simp append_assoc)
