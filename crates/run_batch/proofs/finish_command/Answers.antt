-- The answers to the goals of `run_batch::finish_command`. Assumes nothing.
use Rattle.machine.specs.Step.{ticked}
use lib.ListN.{get_or}
use mathlib.Core.Path.{refl, ap, ◌∙◌}
use native.Mathlib.Omega.{arith}
use Rattle.run_batch.proofs.finish_command.Goals as goal

pub overflow_sub-made : goal.overflow_sub-made
overflow_sub-made c = omega (arith, c.requires.0)

pub overflow_sub-made-2 : goal.overflow_sub-made-2
overflow_sub-made-2 c = omega (arith, (c.duration_of-last.ensures.0 ∙ ap (λ j. get_or c.args.durations.now j 0) c.duration_of-last.ensures.1), c.requires.2)

pub returns : goal.returns
unfolding ticked
returns c = (refl, λ s. rw (← (c.duration_of-last.ensures.0 ∙ ap (λ j. get_or c.args.durations.now j 0) c.duration_of-last.ensures.1), ← c.tick_by-current.ensures, ← c.field_a.ensures.0, ← c.timer_command-set.ensures s c.args.made.core, c.pend.ensures, c.expire.ensures, c.elapse.ensures) refl)
