-- The answers to the goals of `instruction_privileged::govern`. Assumes nothing.
use Rattle.instruction_privileged.proofs.PrivilegedLaws.{governed-done, governed-refused}
use Rattle.machine.specs.State.{joined, with_processor}
use Rattle.instruction_privileged.proofs.govern.Goals as goal

pub transfer-requires : goal.transfer-requires
transfer-requires c = c.requires

pub returns-in-Ok : goal.returns-in-Ok
returns-in-Ok c = λ s memory. governed-done (with_processor s (joined c.args.core c.args.regs.now)) memory c.args.n _ c.args.pages.now _ c.args.ports.now _ c.transfer.result _ (c.transfer.ensures.0 (with_processor s (joined c.args.core c.args.regs.now))) _ c.in-Ok.is

pub returns-in-Err : goal.returns-in-Err
returns-in-Err c = λ s memory. governed-refused (with_processor s (joined c.args.core c.args.regs.now)) memory c.args.n _ c.args.pages.now _ c.args.ports.now _ c.transfer.result _ (c.transfer.ensures.0 (with_processor s (joined c.args.core c.args.regs.now))) _ _ c.in-Err.is (c.transfer.ensures.1, c.transfer.ensures.2, c.transfer.ensures.3) (rw (← c.advance.ensures) c.fault.ensures)
