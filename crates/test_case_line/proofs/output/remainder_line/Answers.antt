-- The answers to the goals of `test_case_line::output::remainder_line`. Assumes nothing.
use Rattle.std.proofs.Common.{append_assoc}
use Rattle.text.specs.Texts.{bytes_of}
use Rattle.test_case_line.specs.Texts.{remainder_line}
use Rattle.test_case_line.proofs.output.remainder_line.Goals as goal

pub returns : goal.returns
unfolding remainder_line bytes_of
returns c = rw (c.push-2.ensures.items, c.put_decimal-2.ensures.text, c.push.ensures.items, c.put_decimal.ensures.text, c.put_bytes.ensures.text, c.from.ensures, c.from-2.ensures, c.new-text.ensures) (simp append_assoc)
