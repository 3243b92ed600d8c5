-- What the loops keep, and the measures, of `run_batch::obey`. Assumes nothing.
use Prim.Native.Nat.{ℕ, ◌+◌, ◌*◌, ◌≤◌, ◌<◌, ◌-◌}
use Rattle.clock.specs.Deferred.{longest_of}
use Rattle.isa.specs.Mil1750.{mil1750}
use Rattle.machine.specs.Entries.{chosen}
use Rattle.machine.specs.State.{Keyed}
use Rattle.machine.specs.declared.State.{State}
use Rattle.run_batch.proofs.StepLaws.{going}
use Rattle.run_batch.specs.Batch.{deferred_at, AllButLast}
use lib.ListN.{length}
use mathlib.Core.Bool.{false}
use mathlib.Core.Path.{◌≡◌}
use Rattle.run_batch.proofs.obey.Given as goal

abbrev pub invariant-loop-t : goal.invariant-loop-t
invariant-loop-t l = (length l.memory ≡ length l.initial.memory) × (l.initial.deferred ≤ l.deferred) × (l.deferred < l.end) × (l.end ≤ l.most) × Keyed l.t.sw l.key l.group × (l.t.hold ≡ false) × (l.deferred + 1 < l.end → 16 ≤ chosen l.t) × (l.tenths ≤ longest_of l.durations * l.deferred) × ((s : State) → AllButLast l.durations l.most s.clock → (k : ℕ) → going mil1750 l.durations (k + (l.deferred - l.initial.deferred)) (deferred_at s l.initial.deferred l.initial.tenths l.initial.t l.initial.regs) l.initial.memory l.initial.pages l.initial.ports ≡ going mil1750 l.durations k (deferred_at s l.deferred l.tenths l.t l.regs) l.memory l.pages l.ports)

abbrev pub decreases-loop-t : goal.decreases-loop-t
decreases-loop-t l = l.end - l.deferred
