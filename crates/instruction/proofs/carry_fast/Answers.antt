-- The answers to the goals of `instruction::carry_fast`. Assumes nothing.
use Rattle.instruction_retired.proofs.ActLaws.{carried-clear, carried-fault, failed}
use Rattle.instruction_retired.proofs.RetiredLaws.{unsettled-lasting}
use Rattle.instruction.proofs.UserLaws.{became-worked, settled-by}
use Rattle.isa.specs.Mil1750.{mil1750, context_of}
use Rattle.machine.specs.Instructions.{operated}
use Rattle.machine.specs.State.{joined, with_processor}
use mathlib.Core.Path.{refl, ap}
use Rattle.instruction.proofs.carry_fast.Goals as goal

pub fast-requires : goal.fast-requires
fast-requires c = (c.requires.0, c.requires.1, c.requires.2, c.requires.3)

pub returns-in-Ok : goal.returns-in-Ok
unfolding operated mil1750 context_of
returns-in-Ok c = λ ports. (λ s. rw (c.weighed.ensures, c.update.ensures, ← carried-clear (with_processor s (joined c.args.core c.args.regs.now)) c.args.memory.now c.args.pages.now ports c.args.n _ _ _ refl refl refl (c.fast.ensures.when-done _ c.in-Ok.is).admitted, c.fast.ensures.by-user) (became-worked (with_processor s (joined c.args.core c.args.regs.now)) c.args.memory.now c.args.pages.now ports c.args.n _ _ _ (c.fast.ensures.when-done _ c.in-Ok.is).worked), settled-by c.args.core _ _ c.args.regs.now _ _ _ (rw (← c.update.ensures) c.weighed.ensures) (c.fast.ensures.when-done _ c.in-Ok.is).worked.processor-is)

pub returns-in-Err : goal.returns-in-Err
unfolding operated mil1750 context_of
returns-in-Err c = let k = c.fast.ensures.when-refused _ c.in-Err.is in λ ports. (λ s. rw (c.deny.ensures, ← carried-fault (with_processor s (joined c.args.core c.args.regs.now)) c.args.memory.now c.args.pages.now ports c.args.n _ _ _ refl refl refl _ k.0, ← c.advance.ensures, k.1) (failed (with_processor s (joined c.args.core c.args.regs.now)) _ c.args.memory.now _ c.args.pages.now ports _ _ k.2 refl), rw c.deny.ensures (unsettled-lasting _ _ _))
