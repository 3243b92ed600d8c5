-- The answers to the goals of `command::xio::core_output`. Assumes nothing.
use Rattle.choice.proofs.SelectLaws.{otherwise}
use Rattle.command.proofs.CommandLaws.{unlisted}
use Rattle.command.specs.Transfer.{governed}
use Rattle.isa.specs.Commands.{core_command, becomes}
use Rattle.machine.specs.State.{joined, with_processor, with_enabled, with_hold}
use borrow.Author.Tests.{lt-leb}
use lib.Dec.{leb}
use mathlib.Core.List.{[], ◌∷◌}
use mathlib.Core.Path.{refl, sym, ap, ◌∙◌}
use Rattle.command.proofs.xio.core_output.Goals as goal

pub returns-in-8192 : goal.returns-in-8192
unfolding core_command becomes governed
returns-in-8192 c = λ s regs g o n. rw c.in-8192.is (ap (λ c. becomes g o (with_processor s (joined c regs))) c.set_mask.ensures)

pub returns-in-8193 : goal.returns-in-8193
unfolding core_command becomes governed
returns-in-8193 c = λ s regs g o n. rw c.in-8193.is (ap (λ c. becomes g o (with_processor s (joined c regs))) c.clear_pending.ensures)

pub returns-in-8194 : goal.returns-in-8194
unfolding core_command becomes governed
returns-in-8194 c = λ s regs g o n. rw c.in-8194.is (ap (λ c. becomes g o (with_processor s (joined c regs))) c.set_enabled.ensures)

pub returns-in-8195 : goal.returns-in-8195
unfolding core_command becomes governed with_enabled with_hold
returns-in-8195 c = λ s regs g o n. rw c.in-8195.is (ap (λ c. becomes g o (with_processor s (joined c regs))) c.set_enabled-in-8195.ensures)

pub returns-in-8196 : goal.returns-in-8196
unfolding core_command becomes governed
returns-in-8196 c = λ s regs g o n. rw c.in-8196.is (ap (λ c. becomes g o (with_processor s (joined c regs))) c.reset_pending.ensures)

pub returns-in-8197 : goal.returns-in-8197
unfolding core_command becomes governed
returns-in-8197 c = λ s regs g o n. rw c.in-8197.is (ap (λ c. becomes g o (with_processor s (joined c regs))) c.hold_pending.ensures)

pub returns-in-8206 : goal.returns-in-8206
unfolding core_command becomes governed
returns-in-8206 c = λ s regs g o n. rw c.in-8206.is (ap (λ c. becomes g o (with_processor s (joined c regs))) c.set_status.ensures)

pub returns-in_default : goal.returns-in_default
unfolding core_command becomes governed
returns-in_default c = λ s regs g o n. sym (otherwise c.args.command ((0x2000, _) ∷ (0x2001, _) ∷ (0x2002, _) ∷ (0x2003, _) ∷ (0x2004, _) ∷ (0x2005, _) ∷ (0x200E, _) ∷ []) _ c.in_default.in_default-own.rest ∙ unlisted (leb 0x8000) c.args.command ((0xA000, _) ∷ (0xA004, _) ∷ (0xA00D, _) ∷ (0xA00E, _) ∷ (0xA00F, _) ∷ []) _ refl (lt-leb _ _ c.requires))
