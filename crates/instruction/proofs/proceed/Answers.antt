-- The answers to the goals of `instruction::proceed`. Assumes nothing.
use Rattle.fast_accumulate.proofs.PathLaws.{path-user}
use Rattle.instruction_retired.proofs.ActLaws.{accessed-clear, accessed-fault, failed}
use Rattle.instruction_retired.proofs.RetiredLaws.{unsettled-lasting}
use Rattle.instruction.proofs.UserLaws.{writes-by, few-written, worked-ordinary, became-worked, settled-by}
use Rattle.isa.specs.Mil1750.{mil1750, context_of}
use Rattle.machine.specs.Instructions.{operated}
use Rattle.machine.specs.State.{joined, with_processor}
use mathlib.Core.Path.{refl, ◌∙◌}
use native.Mathlib.Omega.{arith}
use Rattle.instruction.proofs.proceed.Goals as goal

pub write_start-requires : goal.write_start-requires
write_start-requires c = c.requires.3

pub write_count-requires : goal.write_count-requires
write_count-requires c = c.requires.3

pub check_span-requires : goal.check_span-requires
check_span-requires c = c.requires.2.group-small

pub work-done-requires : goal.work-done-requires
work-done-requires c = (rw (c.span_from-to.ensures ∙ writes-by c.args.regs.now c.args.n _ _ _ refl c.requires.0 c.write_start.ensures.0 c.write_count.ensures.0) (few-written c.args.regs.now c.args.n c.requires.0), c.requires.4)

pub returns-in-Ok : goal.returns-in-Ok
unfolding operated mil1750 context_of
returns-in-Ok c = λ ports. (λ s. rw (c.weighed.ensures, ← accessed-clear (with_processor s (joined c.args.core c.args.regs.now)) c.args.memory.now c.args.pages.now ports c.args.n _ _ _ _ c.requires.2.key-is c.requires.2.group-is (c.span_from-to.ensures ∙ writes-by c.args.regs.now c.args.n _ _ _ refl c.requires.0 c.write_start.ensures.0 c.write_count.ensures.0) c.check_span.ensures c.in-Ok.is, path-user c.args.n 0 c.requires.4 (omega arith)) (became-worked (with_processor s (joined c.args.core c.args.regs.now)) c.args.memory.now c.args.pages.now ports c.args.n _ _ _ (worked-ordinary (joined c.args.core c.args.regs.now) c.args.memory.now c.args.pages.now c.args.n _ _ _ _ _ _ _ c.requires.0 c.requires.1 (c.span_from-to.ensures ∙ writes-by c.args.regs.now c.args.n _ _ _ refl c.requires.0 c.write_start.ensures.0 c.write_count.ensures.0) c.work-done.ensures.0 c.work-done.ensures.1)), settled-by c.args.core _ _ c.args.regs.now _ _ _ c.weighed.ensures c.work-done.ensures.0)

pub returns-in-Err : goal.returns-in-Err
unfolding operated mil1750 context_of
returns-in-Err c = λ ports. (λ s. rw (c.deny.ensures, ← accessed-fault (with_processor s (joined c.args.core c.args.regs.now)) c.args.memory.now c.args.pages.now ports c.args.n _ _ _ _ c.requires.2.key-is c.requires.2.group-is (c.span_from-to.ensures ∙ writes-by c.args.regs.now c.args.n _ _ _ refl c.requires.0 c.write_start.ensures.0 c.write_count.ensures.0) c.check_span.ensures _ c.in-Err.is, ← c.advance.ensures) (failed (with_processor s (joined c.args.core c.args.regs.now)) _ c.args.memory.now _ c.args.pages.now ports _ _ (refl) refl), rw c.deny.ensures (unsettled-lasting _ _ _))
