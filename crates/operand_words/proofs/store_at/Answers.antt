-- The answers to the goals of `operand_words::store_at`. Assumes nothing.
use Rattle.operand_words.specs.Gathers.{stored_one}
use Rattle.page.proofs.SpanLaws.{kept, taken}
use Rattle.std.proofs.Common.{refl, le-ltb, lt-ltb}
use Rattle.operand_words.proofs.store_at.Goals as goal

pub returns-then-span-j : goal.returns-then-span-j
unfolding stored_one
returns-then-span-j c = rw (le-ltb _ _ c.if-span-j.true) refl

pub returns-then-j-span : goal.returns-then-j-span
unfolding stored_one
returns-then-j-span c = rw (lt-ltb _ _ c.if-span-j.false) (kept c.args.span c.args.j _ _ c.if-j-span.true)

pub returns : goal.returns
unfolding stored_one
returns c = rw (lt-ltb _ _ c.if-span-j.false) (taken c.args.span c.args.j _ _ _ c.if-j-span.false c.write_word.ensures)
