-- The answers to the goals of `storage::read::read_span`. Assumes nothing.
use Rattle.std.proofs.Common.{set, sym, ap, ◌∙◌, arith}
use Rattle.page.proofs.SpanLaws.{kept, taken, read_none, read_step}
use Rattle.page.specs.Spans.{word_of}
use Rattle.storage.proofs.read.read_span.Goals as goal
use Rattle.storage.proofs.read.read_span.Goals.{then-number-span, else-number-span}

pub loop-number-preserved : goal.loop-number-preserved
unfolding word_of
loop-number-preserved c = c.loop-number.invariant ∙ read_step _ _ _ _ _ _ _ _ _ _ _ c.loop-number-test.true (elim c.if-number-span.branch [
  | then-number-span w ↦ w.buf-is ∙ taken c.args.span _ _ _ _ w.if-number-span.true (ap (set c.loop-number.buf c.loop-number.number) (w.unwrap_or.ensures ∙ ap word_of w.read_word-word.ensures))
  | else-number-span w ↦ w.buf-is ∙ kept c.args.span _ _ _ w.if-number-span.false
])

pub returns : goal.returns
returns c = sym (c.loop-number.invariant ∙ read_none _ _ _ _ _ _ _ _ _ _ (omega arith))
