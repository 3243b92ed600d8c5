-- What a segment of a batch of steps comes to. All ticks of a batch but the last can be deferred: meanwhile the clock stays as it was at its start, and so many ticks
-- of so many tenths together are still to be made. Assumes nothing.
use Rattle.std.specs.Prelude.{ℕ, ◌+◌, ◌-◌, ◌*◌, ◌/◌, ◌≤◌, ◌<◌, ◌≡◌, Option, Some, None, List, get_or}
use Rattle.machine.specs.declared.State.{State}
use Rattle.machine.specs.declared.Core.{Core}
use Rattle.machine.specs.declared.Clock.{Clock}
use Rattle.machine.specs.State.{joined, with_processor, with_clock}
use Rattle.machine.specs.Machine.{machine}
use Rattle.machine.specs.Step.{ticked}
use Rattle.machine.specs.Runs.{steps}
use Rattle.isa.specs.Fields.{field_a}
use Rattle.isa.specs.Commands.{timer_command}
use Rattle.isa.specs.Mil1750.{mil1750}
use Rattle.clock.specs.Deferred.{Deferrable, after_ticks, ticked_by, longest_of}
use Rattle.instruction_retired.specs.declared.TimerCommand.{TimerCommand}
use Rattle.run_batch.specs.declared.Segment.{Segment}

-- the state with the clock of s after n deferred ticks of e tenths together, with the core c and the registers r
abbrev pub deferred_at : State → ℕ → ℕ → Core → List ℕ → State
deferred_at s n e c r = with_clock (with_processor s (joined c r)) (after_ticks n e s.clock)

-- the duration of the step whose timer command is left to do, by its first word
abbrev pub last_of : List ℕ → TimerCommand → ℕ
last_of d t = get_or d (t.first / 256) 0

-- the state at the end of a segment v, with the registers r, by the timer command that it leaves to do: all ticks are made at once, and the command is done before the last of them
abbrev pub closed_by : List ℕ → State → Segment → List ℕ → Option TimerCommand → State
closed_by d s v r None = ticked_by v.deferred v.tenths (with_processor s (joined v.core r))
closed_by d s v r (Some t) =
    ticked (last_of d t) (timer_command (deferred_at s (v.deferred - 1) (v.tenths - last_of d t) v.core r) (field_a t.first) t.command)

unfoldable pub closed : List ℕ → State → Segment → List ℕ → State
closed d s v r = closed_by d s v r v.timer

-- of a batch of at most n steps with the durations d all ticks but the last can be deferred
abbrev pub AllButLast : List ℕ → ℕ → Clock → Type 0
AllButLast d n k = 1 < n → Deferrable (longest_of d * (n - 1)) k

-- with the durations d, from the core c and registers and lists, when `from` steps of the batch are made over e tenths, to the segment v, with registers and lists
pub record Made (d : List ℕ) (from e most : ℕ) (c : Core) (regs memory pages ports : List ℕ) (v : Segment) (regs' memory' pages' ports' : List ℕ) : Type 0 where
  pub onward : from < v.deferred
  pub within : v.deferred ≤ most
  pub bounded : v.tenths ≤ longest_of d * v.deferred
  pub last_within : (t : TimerCommand) → v.timer ≡ Some t → last_of d t ≤ v.tenths
  pub made : (s : State) → AllButLast d most s.clock → (k : ℕ)
      → steps mil1750 d (k + (v.deferred - from)) (machine (deferred_at s from e c regs) memory pages ports)
      ≡ steps mil1750 d k (machine (closed d s v regs') memory' pages' ports')
