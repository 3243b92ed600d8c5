-- The answers to the goals of `storage::write::write_span`. Assumes nothing.
use Rattle.std.proofs.Common.{sym, refl, ◌∙◌, arith}
use Rattle.std.proofs.Math.Nat.{sub-zero}
use Rattle.page.proofs.SpanLaws.{kept, taken, write-none, write_step}
use Rattle.page.specs.Spans.{written}
use Rattle.storage.proofs.write.write_span.Goals as goal
use Rattle.storage.proofs.write.write_span.Goals.{then-number-span, else-number-span}

pub loop-number-init : goal.loop-number-init
unfolding written
loop-number-init c = rw sub-zero refl

pub loop-number-preserved : goal.loop-number-preserved
unfolding written
loop-number-preserved c = c.loop-number.invariant ∙ write_step _ _ _ _ _ _ _ _ _ _ _ c.loop-number-test.true (elim c.if-number-span.branch [
  | then-number-span w ↦ w.memory-is ∙ taken c.args.span _ _ _ _ w.if-number-span.true (rw c.loop-number.auto.memory at w.write_word.ensures)
  | else-number-span w ↦ w.memory-is ∙ kept c.args.span _ _ _ w.if-number-span.false
])

pub returns : goal.returns
unfolding written
returns c = sym (c.loop-number.invariant ∙ write-none _ _ _ _ _ _ _ _ _ _ (omega arith))
