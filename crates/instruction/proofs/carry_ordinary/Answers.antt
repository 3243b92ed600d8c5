-- The answers to the goals of `instruction::carry_ordinary`. Assumes nothing.
use Rattle.instruction_retired.proofs.ActLaws.{words-read, carried-read, carried-denied, failed}
use Rattle.instruction_retired.proofs.RetiredLaws.{unsettled-lasting}
use Rattle.instruction.proofs.UserLaws.{reads-by}
use Rattle.machine.specs.State.{reset_state, joined, with_processor}
use mathlib.Core.Path.{refl}
use Rattle.instruction.proofs.carry_ordinary.Goals as goal

pub read_start-from-requires : goal.read_start-from-requires
read_start-from-requires c = c.requires.1

pub read_count-requires : goal.read_count-requires
read_count-requires c = c.requires.1

pub gather-requires : goal.gather-requires
gather-requires c = (c.requires.0.group-small, c.read_count.ensures.1)

pub proceed-requires : goal.proceed-requires
proceed-requires c = let s = reset_state in (c.requires.2, words-read (with_processor s (joined c.args.core c.args.regs.now)) c.args.memory.now c.args.pages.now c.args.n _ _ c.requires.0.key-is c.requires.0.group-is _ _ _ (reads-by c.args.regs.now c.args.n _ _ _ refl c.requires.2 c.read_start-from.ensures.0 c.read_count.ensures.0) c.gather.ensures _ c.in-Ok.is, c.requires.0, c.requires.1, c.requires.3)

pub returns-in-Ok : goal.returns-in-Ok
returns-in-Ok c = λ ports. (λ s. rw (← carried-read (with_processor s (joined c.args.core c.args.regs.now)) c.args.memory.now c.args.pages.now c.args.n _ _ c.requires.0.key-is c.requires.0.group-is _ _ _ (reads-by c.args.regs.now c.args.n _ _ _ refl c.requires.2 c.read_start-from.ensures.0 c.read_count.ensures.0) c.gather.ensures ports _ c.in-Ok.is) ((c.proceed.ensures ports).0 s), (c.proceed.ensures ports).1)

pub returns-in-Err : goal.returns-in-Err
returns-in-Err c = λ ports. (λ s. rw (c.deny.ensures, ← carried-denied (with_processor s (joined c.args.core c.args.regs.now)) c.args.memory.now c.args.pages.now c.args.n _ _ c.requires.0.key-is c.requires.0.group-is _ _ _ (reads-by c.args.regs.now c.args.n _ _ _ refl c.requires.2 c.read_start-from.ensures.0 c.read_count.ensures.0) c.gather.ensures ports _ c.in-Err.is, ← c.advance.ensures) (failed (with_processor s (joined c.args.core c.args.regs.now)) _ c.args.memory.now _ c.args.pages.now ports _ _ (refl) refl), rw c.deny.ensures (unsettled-lasting _ _ _))
