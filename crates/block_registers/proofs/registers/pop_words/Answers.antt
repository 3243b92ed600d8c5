-- The answers to the goals of `block_registers::registers::pop_words`. Assumes nothing.
use Rattle.std.proofs.Common.{◌+◌, ◌-◌, ◌∙◌, arith, get_or-drop, eq-eqb, ne_eqb}
use Rattle.block_registers.proofs.BlockLaws.{popped-step}
use Rattle.block_registers.proofs.registers.pop_words.Goals as goal
use Rattle.block_registers.proofs.registers.pop_words.Goals.{then-at-ne15, else-at-ne15}

pub loop-i-preserved : goal.loop-i-preserved
loop-i-preserved c =
    let i = c.loop-i.i in
    c.loop-i.invariant ∙ popped-step _ _ _ (c.args.k - (i + 1)) i _ (omega arith) _
    (elim c.if-at-ne15.branch [
      | then-at-ne15 w ↦ rw (ne_eqb _ _ w.if-at-ne15.true, get_or-drop c.args.p c.args.words.now i 0, w.regs-is) w.put.ensures
      | else-at-ne15 w ↦ rw (eq-eqb _ _ w.if-at-ne15.false) w.regs-is
    ])
