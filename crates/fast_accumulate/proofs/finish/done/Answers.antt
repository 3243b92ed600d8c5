-- The answers to the goals of `fast_accumulate::finish::done`. Assumes nothing.
use Rattle.machine.specs.State.{with_pi, with_sw, with_ic}
use Rattle.machine.specs.Step.{affected}
use mathlib.Core.Path.{refl}
use Rattle.fast_accumulate.proofs.finish.done.Goals as goal

pub returns : goal.returns
unfolding affected with_pi with_sw with_ic
returns c = λ regs e i j k. rw (i, j, k, ← c.with_cs.ensures) refl
