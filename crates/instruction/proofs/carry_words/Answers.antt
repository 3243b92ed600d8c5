-- The answers to the goals of `instruction::carry_words`. Assumes nothing.
use Rattle.instruction_retired.proofs.ActLaws.{carried-clear, carried-fault, failed}
use Rattle.instruction_retired.proofs.RetiredLaws.{unsettled-lasting}
use Rattle.instruction.proofs.UserLaws.{block-need, became-worked, block-user, settled-by}
use Rattle.isa.specs.Mil1750.{mil1750, context_of}
use Rattle.machine.specs.Instructions.{operated}
use Rattle.machine.specs.State.{joined, with_processor}
use mathlib.Core.Path.{refl}
use Rattle.instruction.proofs.carry_words.Goals as goal

pub reads-from-requires : goal.reads-from-requires
reads-from-requires c = block-need c.args.n.form c.requires

pub writes-to-requires : goal.writes-to-requires
writes-to-requires c = block-need c.args.n.form c.requires

pub block-requires : goal.block-requires
block-requires c = (c.requires, c.reads-from.ensures.0, c.reads-from.ensures.1)

pub returns-in-Ok : goal.returns-in-Ok
unfolding operated mil1750 context_of
returns-in-Ok c = λ ports. (λ s. rw (c.weighed.ensures, ← carried-clear (with_processor s (joined c.args.core c.args.regs.now)) c.args.memory.now c.args.pages.now ports c.args.n _ _ _ c.reads-from.ensures.0 c.writes-to.ensures.0 c.verify.ensures c.in-Ok.is, block-user _ c.requires) (became-worked (with_processor s (joined c.args.core c.args.regs.now)) c.args.memory.now c.args.pages.now ports c.args.n _ _ _ c.block.ensures), settled-by c.args.core _ _ c.args.regs.now _ _ _ c.weighed.ensures c.block.ensures.processor-is)

pub returns-in-Err : goal.returns-in-Err
unfolding operated mil1750 context_of
returns-in-Err c = λ ports. (λ s. rw (c.deny.ensures, ← carried-fault (with_processor s (joined c.args.core c.args.regs.now)) c.args.memory.now c.args.pages.now ports c.args.n _ _ _ c.reads-from.ensures.0 c.writes-to.ensures.0 c.verify.ensures _ c.in-Err.is, ← c.advance.ensures) (failed (with_processor s (joined c.args.core c.args.regs.now)) _ c.args.memory.now _ c.args.pages.now ports _ _ (refl) refl), rw c.deny.ensures (unsettled-lasting _ _ _))
