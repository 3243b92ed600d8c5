-- The answers to the goals of `instruction_privileged::executive`. Assumes nothing.
use Rattle.instruction_privileged.proofs.SystemLaws.{bex-carried}
use Rattle.instruction_retired.proofs.RetiredLaws.{unsettled-lasting}
use Rattle.machine.specs.State.{joined, with_processor}
use native.Mathlib.Omega.{arith}
use Rattle.instruction_privileged.proofs.executive.Goals as goal

pub call-requires : goal.call-requires
call-requires c = omega arith

pub returns : goal.returns
returns c = λ regs ports. (λ s. rw (c.unsettled.ensures, ← bex-carried (with_processor s (joined c.args.core regs)) c.args.memory.now c.args.pages.now ports c.args.n c.requires) (c.call.ensures s regs ports), rw c.unsettled.ensures (unsettled-lasting _ _ _))
