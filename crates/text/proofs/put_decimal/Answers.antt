-- The answers to the goals of `text::put_decimal`. Assumes nothing.
use Rattle.std.proofs.Common.{rules, ap, ◌++◌}
use Rattle.text.proofs.DecimalLaws.{decimal-written}
use Rattle.text.proofs.put_decimal.Goals as goal

pub returns-clause-text : goal.returns-clause-text
returns-clause-text g c = rw (c.put_bytes.ensures.text, c.as_bytes.ensures.value, c.format.ensures.text) (ap (λ t. c.args.out.now.items ++ t) (decimal-written _ (search rules)))
