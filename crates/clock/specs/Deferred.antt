-- Deferred ticks: several are made at once, where no timer passes its end before the last. Assumes nothing.
use Rattle.std.specs.Prelude.{◌≡◌, ℕ, zero, suc, ◌+◌, ◌-◌, ◌*◌, ◌/◌, ◌%◌, ◌≤◌, Bool, true, cond, List, length, ◌==◌, bit_or, nat_lt, slice_index}
use Rattle.machine.specs.declared.State.{State}
use Rattle.machine.specs.declared.Clock.{Clock}
use Rattle.machine.specs.State.{with_core, with_clock, with_pi, with_count}
use Rattle.machine.specs.Step.{elapsed, expired}

-- e tenths can be deferred: in them no running timer passes FFFF to 0000
pub record Deferrable (e : ℕ) (k : Clock) : Type 0 where
  pub a-inside : k.taon ≡ true → k.ta * 100 + k.rema + e ≤ 6553599
  pub b-inside : k.tbon ≡ true → k.tb * 1000 + k.remb + e ≤ 65535999

-- the clock after n ticks of e tenths together: the timers count as over one step of e tenths. No tick leaves it, whatever its remainders are
unfoldable pub after_ticks : ℕ → ℕ → Clock → Clock
after_ticks n e k = cond (n == 0) k (with_count (elapsed e k) ((k.count + n) % 4294967296))

-- the state after n ticks of e tenths together, before the last of which no timer passed its end
unfoldable pub ticked_by : ℕ → ℕ → State → State
ticked_by n e s = with_clock (with_core s (with_pi s.core (bit_or s.core.pi (expired e s.clock)))) (after_ticks n e s.clock)

-- the longest of the first n durations, or 1 where all are 0; then of all. No step takes more tenths
unfoldable pub longest_to : List ℕ → ℕ → ℕ
longest_to d zero = 1
longest_to d (suc n) = cond (nat_lt (longest_to d n) (slice_index d n)) (slice_index d n) (longest_to d n)

unfoldable pub longest_of : List ℕ → ℕ
longest_of d = longest_to d (length d)

-- at most n ticks of at most `longest` tenths in which a timer that is t tenths after 0000, where it runs, does not pass `end`
unfoldable pub ticks_left : Bool → ℕ → ℕ → ℕ → ℕ → ℕ
ticks_left on t end longest n = cond on (cond (nat_lt end t) 0 (cond (nat_lt ((end - t) / longest) n) ((end - t) / longest) n)) n

-- at most n such ticks that can be deferred
unfoldable pub deferrable_of : Clock → ℕ → ℕ → ℕ
deferrable_of k longest n =
    ticks_left k.tbon (k.tb * 1000 + k.remb) 65535999 longest (ticks_left k.taon (k.ta * 100 + k.rema) 6553599 longest n)
