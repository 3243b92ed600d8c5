-- The answers to the goals of `command::xio::output`. Assumes nothing.
use Rattle.command.proofs.CommandLaws.{same}
use Rattle.command.specs.Transfer.{governed, Kept}
use Rattle.isa.specs.Commands.{commanded, state_command, becomes}
use borrow.Author.Tests.{le-leb, lt-leb}
use mathlib.Core.Path.{refl}
use native.Mathlib.Omega.{arith}
use Rattle.command.proofs.xio.output.Goals as goal

pub returns-then-command-le1023 : goal.returns-then-command-le1023
unfolding commanded state_command becomes governed Kept
returns-then-command-le1023 c = (λ s regs n. rw (le-leb _ _ c.if-command-le1023.true) refl, tt, tt)

pub core_output-requires : goal.core_output-requires
core_output-requires c = c.requires.0

pub returns-then-command-le20735 : goal.returns-then-command-le20735
unfolding commanded state_command becomes governed Kept
returns-then-command-le20735 c = (λ s regs n. rw (lt-leb _ _ c.if-command-le1023.false, le-leb _ _ c.if-command-le20735.true, c.requires.1) (c.core_output.ensures s regs _ _ n), same c.core_output.result _, same c.core_output.result _)

pub returns-then-command-le20991 : goal.returns-then-command-le20991
unfolding commanded state_command becomes governed Kept
returns-then-command-le20991 c = (λ s regs n. rw (lt-leb _ _ c.if-command-le1023.false, lt-leb _ _ c.if-command-le20735.false, le-leb _ _ c.if-command-le20991.true) refl, tt, tt)

pub returns-then-command-le21247 : goal.returns-then-command-le21247
unfolding commanded state_command becomes governed Kept
returns-then-command-le21247 c = (λ s regs n. rw (lt-leb _ _ c.if-command-le1023.false, lt-leb _ _ c.if-command-le20735.false, lt-leb _ _ c.if-command-le20991.false, le-leb _ _ c.if-command-le21247.true) refl, tt, tt)

pub core_output-requires-2 : goal.core_output-requires-2
core_output-requires-2 c = c.requires.0

pub returns : goal.returns
unfolding commanded state_command becomes governed Kept
returns c = (λ s regs n. rw (lt-leb _ _ c.if-command-le1023.false, lt-leb _ _ c.if-command-le20735.false, lt-leb _ _ c.if-command-le20991.false, lt-leb _ _ c.if-command-le21247.false, le-leb c.args.command 0x7FFF (omega (arith, c.requires.0)), c.requires.1) (c.core_output-2.ensures s regs _ _ n), same c.core_output-2.result _, same c.core_output-2.result _)
