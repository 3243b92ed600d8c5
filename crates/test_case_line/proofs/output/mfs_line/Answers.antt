-- The answers to the goals of `test_case_line::output::mfs_line`. Assumes nothing.
use Rattle.std.proofs.Common.{append_assoc}
use Rattle.text.specs.Texts.{bytes_of}
use Rattle.test_case_line.specs.Texts.{mfs_line}
use Rattle.test_case_line.proofs.output.mfs_line.Goals as goal

pub returns-clause-text : goal.returns-clause-text
unfolding mfs_line bytes_of
returns-clause-text c = rw (c.push.ensures.items, c.put_hex.ensures.text, c.put_bytes.ensures.text, c.new-text.ensures) (simp append_assoc)
