-- The answers to the goals of `command::xio::take`. Assumes nothing.
use Rattle.command.proofs.xio.take.Goals as goal

pub returns : goal.returns
returns c = rw (← c.field_a.ensures.0) c.put.ensures
