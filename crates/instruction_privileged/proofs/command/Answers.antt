-- The answers to the goals of `instruction_privileged::command`. Assumes nothing.
use Rattle.instruction_privileged.proofs.PrivilegedLaws.{timer-became}
use Rattle.instruction_privileged.proofs.SystemLaws.{xio-carried}
use Rattle.instruction_retired.proofs.RetiredLaws.{unsettled-lasting, commanded-lasting}
use Rattle.machine.specs.State.{joined, with_processor}
use mathlib.Core.Path.{sym, ◌∙◌}
use Rattle.instruction_privileged.proofs.command.Goals as goal

pub returns-then-is_timer : goal.returns-then-is_timer
returns-then-is_timer c = λ memory. (λ s. rw (← xio-carried (with_processor s (joined c.args.core c.args.regs.now)) memory c.args.pages.now c.args.ports.now c.args.n c.requires) (timer-became (with_processor s (joined c.args.core c.args.regs.now)) memory c.args.pages.now c.args.ports.now c.args.n _ (sym c.is_timer.ensures ∙ c.if-is_timer.true) c.resume.ensures), commanded-lasting _ _ _ _)

pub govern-requires : goal.govern-requires
govern-requires c = sym c.is_timer.ensures ∙ c.if-is_timer.false

pub returns : goal.returns
returns c = λ memory. (λ s. rw (c.unsettled.ensures, ← xio-carried (with_processor s (joined c.args.core c.args.regs.now)) memory c.args.pages.now c.args.ports.now c.args.n c.requires) (c.govern.ensures s memory), rw c.unsettled.ensures (unsettled-lasting _ _ _))
