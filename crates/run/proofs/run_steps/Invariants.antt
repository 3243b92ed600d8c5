-- What the loops keep, and the measures, of `run::run_steps`. Assumes nothing.
use Rattle.isa.specs.Mil1750.{mil1750}
use Rattle.machine.specs.Machine.{machine}
use Rattle.machine.specs.Runs.{steps}
use Rattle.machine.specs.State.{joined, with_processor, with_clock}
use Rattle.machine.specs.declared.State.{State}
use lib.ListN.{length}
use mathlib.Core.Path.{◌≡◌}
use Rattle.run.proofs.run_steps.Given as goal

abbrev pub invariant-loop-rest : goal.invariant-loop-rest
invariant-loop-rest l = (length l.memory ≡ length l.initial.memory) × ((s : State) → steps mil1750 l.durations l.initial.rest.left (machine (with_clock (with_processor s (joined l.initial.rest.core l.initial.regs)) l.initial.rest.clock) l.initial.memory l.initial.pages l.initial.ports) ≡ steps mil1750 l.durations l.rest.left (machine (with_clock (with_processor s (joined l.rest.core l.regs)) l.rest.clock) l.memory l.pages l.ports))

abbrev pub decreases-loop-rest : goal.decreases-loop-rest
decreases-loop-rest l = l.rest.left
