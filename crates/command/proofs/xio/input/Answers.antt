-- The answers to the goals of `command::xio::input`. Assumes nothing.
use Rattle.command.proofs.CommandLaws.{past-outputs}
use Rattle.command.specs.Transfer.{governed, Kept}
use Rattle.isa.specs.Commands.{commanded, state_command, becomes, with_ra}
use borrow.Author.Tests.{le-leb, lt-leb}
use mathlib.Core.Path.{refl}
use Rattle.command.proofs.xio.input.Goals as goal

pub returns-then-n-le33791 : goal.returns-then-n-le33791
unfolding commanded state_command becomes with_ra governed Kept
returns-then-n-le33791 c = (λ s ra. past-outputs _ c.requires.0 _ _ _ _ _ _ _ (rw (le-leb _ _ c.if-n-le33791.true, ← c.take.ensures) refl), tt)

pub core_input-requires : goal.core_input-requires
core_input-requires c = c.requires.0

pub returns-then-n-le53503 : goal.returns-then-n-le53503
unfolding commanded state_command becomes with_ra governed Kept
returns-then-n-le53503 c = (λ s ra. past-outputs _ c.requires.0 _ _ _ _ _ _ _ (rw (lt-leb _ _ c.if-n-le33791.false, le-leb _ _ c.if-n-le53503.true, c.requires.1) (c.core_input.ensures.0 s _ _ ra)), c.core_input.ensures.1)

pub returns-then-n-le53759 : goal.returns-then-n-le53759
unfolding commanded state_command becomes with_ra governed Kept
returns-then-n-le53759 c = (λ s ra. past-outputs _ c.requires.0 _ _ _ _ _ _ _ (rw (lt-leb _ _ c.if-n-le33791.false, lt-leb _ _ c.if-n-le53503.false, le-leb _ _ c.if-n-le53759.true, ← c.take-then-n-le53759.ensures) refl), tt)

pub returns-then-n-le54015 : goal.returns-then-n-le54015
unfolding commanded state_command becomes with_ra governed Kept
returns-then-n-le54015 c = (λ s ra. past-outputs _ c.requires.0 _ _ _ _ _ _ _ (rw (lt-leb _ _ c.if-n-le33791.false, lt-leb _ _ c.if-n-le53503.false, lt-leb _ _ c.if-n-le53759.false, le-leb _ _ c.if-n-le54015.true, ← c.take-then-n-le54015.ensures) refl), tt)

pub core_input-requires-2 : goal.core_input-requires-2
core_input-requires-2 c = c.requires.0

pub returns : goal.returns
unfolding commanded state_command becomes with_ra governed Kept
returns c = (λ s ra. past-outputs _ c.requires.0 _ _ _ _ _ _ _ (rw (lt-leb _ _ c.if-n-le33791.false, lt-leb _ _ c.if-n-le53503.false, lt-leb _ _ c.if-n-le53759.false, lt-leb _ _ c.if-n-le54015.false, c.requires.1) (c.core_input-2.ensures.0 s _ _ ra)), c.core_input-2.ensures.1)
