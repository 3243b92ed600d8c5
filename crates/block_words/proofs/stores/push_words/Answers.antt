-- The answers to the goals of `block_words::stores::push_words`. Assumes nothing.
use Rattle.std.proofs.Common.{sym, ◌∙◌, arith}
use Rattle.block_registers.proofs.BlockLaws.{pushed_none, pushed-step}
use Rattle.block_words.proofs.stores.push_words.Goals as goal

pub loop-i-preserved : goal.loop-i-preserved
loop-i-preserved c = c.loop-i.invariant ∙ pushed-step _ _ _ _ _ (omega arith) _ c.pushed_word.ensures _ (omega arith)

pub returns : goal.returns
returns c = rw (← c.field_a.ensures.0, ← c.field_b-b.ensures.0, ← c.registers_from-k.ensures.0) (sym (c.loop-i.invariant ∙ pushed_none _ _ _ _ _ (omega arith)))
