-- The answers to the goals of `block_one_page::extents::push_extent`. Assumes nothing.
use Rattle.std.proofs.Common.{◌+◌, ◌-◌, sym, ◌∙◌, arith}
use Rattle.block_one_page.proofs.HereLaws.{downwards, stored-step}
use Rattle.block_registers.proofs.BlockLaws.{pushed_at}
use Rattle.block_one_page.proofs.extents.push_extent.Goals as goal

pub loop-i-preserved : goal.loop-i-preserved
loop-i-preserved c =
    let i = c.loop-i.i in
    c.loop-i.invariant ∙ stored-step (downwards c.args.p) _ _ (c.args.count - (i + 1)) i _ (omega arith) _
    (c.pushed_word.ensures ∙ sym (pushed_at _ _ _ 0 _ _ (omega arith) (omega arith)))
