-- The answers to the goals of `test_case_line::output::case_line`. Assumes nothing.
use Rattle.std.proofs.Common.{append_assoc}
use Rattle.test_case_line.specs.Texts.{case_line}
use Rattle.test_case_line.proofs.output.case_line.Goals as goal

pub returns : goal.returns
unfolding case_line
returns c = rw (c.push.ensures.items, c.put_decimal-2.ensures.text, c.put_bytes-2.ensures.text, c.put_decimal.ensures.text, c.put_bytes.ensures.text, c.new-text.ensures) (simp append_assoc)
