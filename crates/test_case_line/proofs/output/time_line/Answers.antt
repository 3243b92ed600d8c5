-- The answers to the goals of `test_case_line::output::time_line`. Assumes nothing.
use Rattle.std.proofs.Common.{append_assoc}
use Rattle.test_case_line.specs.Texts.{time_line}
use Rattle.test_case_line.proofs.output.time_line.Goals as goal

pub returns : goal.returns
unfolding time_line
returns c = rw (c.push.ensures.items, c.put_decimal.ensures.text, c.put_bytes-4.ensures.text, c.put_hex-3.ensures.text, c.put_bytes-3.ensures.text, c.put_hex-2.ensures.text, c.put_bytes-2.ensures.text, c.put_hex.ensures.text, c.put_bytes.ensures.text, c.marks.ensures, c.new-text.ensures) (simp append_assoc)
