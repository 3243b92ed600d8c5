-- The answers to the goals of `instruction::carry_block`. Assumes nothing.
use Rattle.instruction_retired.proofs.ActLaws.{carried-clear}
use Rattle.instruction.proofs.UserLaws.{became-worked, block-user, settled-by}
use Rattle.isa.specs.Mil1750.{mil1750, context_of}
use Rattle.machine.specs.Instructions.{operated}
use Rattle.machine.specs.State.{joined, with_processor}
use mathlib.Core.Path.{refl}
use Rattle.instruction.proofs.carry_block.Goals as goal

pub try_block-requires : goal.try_block-requires
try_block-requires c = c.requires.1

pub returns-in-Some : goal.returns-in-Some
unfolding operated mil1750 context_of
returns-in-Some c = λ ports. (λ s. rw (c.weighed.ensures, ← carried-clear (with_processor s (joined c.args.core c.args.regs.now)) c.args.memory.now c.args.pages.now ports c.args.n _ _ _ refl refl refl c.in-Some.ensures.admitted, block-user _ c.requires.0) (became-worked (with_processor s (joined c.args.core c.args.regs.now)) c.args.memory.now c.args.pages.now ports c.args.n _ _ _ c.in-Some.ensures.worked), settled-by c.args.core _ _ c.args.regs.now _ _ _ c.weighed.ensures c.in-Some.ensures.worked.processor-is)

pub carry_words-requires : goal.carry_words-requires
carry_words-requires c = c.requires.0

pub returns-in-None : goal.returns-in-None
unfolding operated mil1750 context_of
returns-in-None c = rw (← c.in-None.ensures.0, ← c.in-None.ensures.1) c.carry_words.ensures
