-- What the loops keep, and the measures, of `run_batch::batch`. Assumes nothing.
use Prim.Native.Nat.{◌*◌, ◌≤◌, ◌<◌, ◌-◌}
use Rattle.clock.specs.Deferred.{longest_of}
use Rattle.isa.specs.Mil1750.{mil1750}
use Rattle.machine.specs.Machine.{machine}
use Rattle.machine.specs.Runs.{steps}
use Rattle.machine.specs.State.{joined, with_processor, with_clock}
use Rattle.machine.specs.declared.State.{State}
use Rattle.run_batch.specs.Batch.{deferred_at, AllButLast}
use lib.ListN.{length}
use mathlib.Core.Path.{◌≡◌}
use Rattle.run_batch.proofs.batch.Given as goal

abbrev pub invariant-loop-timer : goal.invariant-loop-timer
invariant-loop-timer l = (length l.memory ≡ length l.initial.memory) × (l.deferred < l.most) × (l.most ≤ l.due.left) × AllButLast l.durations l.most l.due.clock × (l.tenths ≤ longest_of l.durations * l.deferred) × ((s : State) → steps mil1750 l.durations l.due.left (machine (with_clock (with_processor s (joined l.initial.t l.initial.regs)) l.due.clock) l.initial.memory l.initial.pages l.initial.ports) ≡ steps mil1750 l.durations (l.due.left - l.deferred) (machine (deferred_at (with_clock s l.due.clock) l.deferred l.tenths l.t l.regs) l.memory l.pages l.ports))

abbrev pub decreases-loop-timer : goal.decreases-loop-timer
decreases-loop-timer l = l.most - l.deferred
