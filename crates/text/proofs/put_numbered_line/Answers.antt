-- The answers to the goals of `text::put_numbered_line`. Assumes nothing.
use Rattle.std.proofs.Common.{append_assoc}
use Rattle.text.specs.Texts.{numbered_line}
use Rattle.text.proofs.put_numbered_line.Goals as goal

pub returns-clause-text : goal.returns-clause-text
unfolding numbered_line
returns-clause-text g c = rw (c.push.ensures.items, c.put_decimal.ensures.text, c.put_bytes.ensures.text) (simp append_assoc)
