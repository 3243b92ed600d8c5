-- The answers to the goals of `text::put_hex`. Assumes nothing.
use Rattle.std.proofs.Common.{append_assoc}
use Rattle.text.specs.Texts.{hex}
use Rattle.text.proofs.put_hex.Goals as goal

pub returns-clause-text : goal.returns-clause-text
unfolding hex
returns-clause-text g c = rw (c.push-4.ensures.items, c.push-3.ensures.items, c.push-2.ensures.items, c.push.ensures.items, c.digit.ensures, c.digit-2.ensures, c.digit-3.ensures, c.digit-4.ensures) (simp append_assoc)
