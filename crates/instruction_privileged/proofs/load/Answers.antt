-- The answers to the goals of `instruction_privileged::load`. Assumes nothing.
use Rattle.fast_accumulate.proofs.PathLaws.{path-count}
use Rattle.instruction_privileged.proofs.SystemLaws.{lst-carried, lst-denied, lst-became}
use Rattle.instruction_retired.proofs.ActLaws.{failed}
use Rattle.instruction_retired.proofs.RetiredLaws.{unsettled-lasting}
use Rattle.machine.specs.State.{joined, with_processor}
use mathlib.Core.Path.{refl}
use native.Mathlib.Omega.{arith}
use Rattle.instruction_privileged.proofs.load.Goals as goal

pub read_operand-requires : goal.read_operand-requires
read_operand-requires c = (c.requires.0.group-small, c.requires.2, omega (arith, c.requires.1))

pub returns-in-Ok : goal.returns-in-Ok
returns-in-Ok c = λ ports. (λ s. rw (c.unsettled.ensures, ← lst-carried (with_processor s (joined c.args.core c.args.regs.now)) c.args.memory.now c.args.pages.now ports c.args.n c.requires.1 _ _ c.requires.0.key-is c.requires.0.group-is _ (c.read_operand.ensures 3 (path-count c.args.n 8 c.requires.1 (omega arith) 3 refl)) _ c.in-Ok.is) (lst-became (with_processor s (joined c.args.core c.args.regs.now)) _ c.args.memory.now c.args.pages.now ports _ _ _ c.load_status.ensures), rw c.unsettled.ensures (unsettled-lasting _ _ _))

pub returns-in-Err : goal.returns-in-Err
returns-in-Err c = λ ports. (λ s. rw (c.deny.ensures, ← lst-denied (with_processor s (joined c.args.core c.args.regs.now)) c.args.memory.now c.args.pages.now ports c.args.n c.requires.1 _ _ c.requires.0.key-is c.requires.0.group-is _ (c.read_operand.ensures 3 (path-count c.args.n 8 c.requires.1 (omega arith) 3 refl)) _ c.in-Err.is, ← c.advance.ensures) (failed (with_processor s (joined c.args.core c.args.regs.now)) _ c.args.memory.now _ c.args.pages.now ports _ _ (refl) refl), rw c.deny.ensures (unsettled-lasting _ _ _))
