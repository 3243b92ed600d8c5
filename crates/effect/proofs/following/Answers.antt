-- The answers to the goals of `effect::following`. Assumes nothing.
use Rattle.machine.specs.Machine.{next_of}
use Rattle.page.specs.Spans.{wrapped}
use Rattle.effect.proofs.following.Goals as goal

pub returns : goal.returns
unfolding wrapped next_of
returns c = c.wrapping_add_u16.ensures.value
