-- The answers to the goals of `run_batch::finish`. Assumes nothing.
use Rattle.clock.specs.Deferred.{ticked_by}
use mathlib.Core.Path.{refl}
use Rattle.run_batch.proofs.finish.Goals as goal

pub returns : goal.returns
unfolding ticked_by
returns c = (refl, λ s regs. rw (← c.tick_by.ensures, c.pend.ensures, c.expire.ensures) refl)
