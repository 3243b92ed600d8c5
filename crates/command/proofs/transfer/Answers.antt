-- The answers to the goals of `command::transfer`. Assumes nothing.
use Rattle.command.proofs.CommandLaws.{same}
use Rattle.command.specs.Transfer.{governed, Kept}
use Rattle.command.proofs.transfer.Goals as goal

pub output-requires : goal.output-requires
output-requires c = (c.if-n-lt32768.true, c.requires)

pub returns-then-n-lt32768 : goal.returns-then-n-lt32768
unfolding governed Kept
returns-then-n-lt32768 c = (λ s. rw (← c.resume-next.ensures, ← c.field_a.ensures.0, ← c.get-ra.ensures) (c.output.ensures.0 s _ _), same c.output.result _, c.output.ensures.1, c.output.ensures.2)

pub input-requires : goal.input-requires
input-requires c = (c.if-n-lt32768.false, c.requires)

pub returns : goal.returns
unfolding governed Kept
returns c = (λ s. rw (← c.resume-next.ensures, ← c.field_a.ensures.0, ← c.get-ra.ensures) (c.input.ensures.0 s _), c.input.ensures.1, same c.input.result _, same c.input.result _)
