-- States and page registers to begin from, and two machines compared in every part, for rows that are computed. Assumes nothing.
use Prim.Native.Nat.{ℕ, ◌*◌, ◌/◌, ◌%◌}
use mathlib.Core.Bool.{Bool, ◌&&◌}
use mathlib.Core.List.{List, [], ◌∷◌, ◌++◌}
use Rattle.choice.proofs.Rows.{equal, flag}
use Rattle.machine.specs.declared.State.{State}
use Rattle.machine.specs.declared.Core.{Core}
use Rattle.machine.specs.declared.Clock.{Clock}
use Rattle.machine.specs.State.{reset_state, joined, with_processor, with_clock, with_ic, with_sw, with_ta, with_tb, with_rem_b, with_count}
use Rattle.machine.specs.Machine.{Machine}
-- the page registers after reset, and 100 tenths for every duration
pub use Rattle.page.proofs.Samples.{groups, reset_pages}
pub use Rattle.machine.specs.OldTimers.{hundreds}

-- the registers, IC and SW; the rest as after reset
abbrev pub state_at : List ℕ → ℕ → ℕ → State
unfolding reset_state
state_at regs ic sw = with_processor reset_state (joined (with_sw (with_ic reset_state.core ic) sw) regs)

-- the counter and both timers after n steps of 100 tenths, from reset
abbrev pub steps_on : ℕ → State → State
steps_on n s = with_clock s (with_count (with_rem_b (with_tb (with_ta s.clock n) (n / 10)) (n % 10 * 100)) n)

-- IC, SW, MK, PI, FT, MFS, enabled, hold
abbrev pub core_parts : Core → List ℕ
core_parts c = c.ic ∷ c.sw ∷ c.mk ∷ c.pi ∷ c.faults.ft ∷ c.faults.mfs ∷ flag c.enabled ∷ flag c.hold ∷ []

-- timers A and B, their remainders and running marks, the counter
abbrev pub clock_parts : Clock → List ℕ
clock_parts c = c.ta ∷ c.tb ∷ c.rema ∷ c.remb ∷ flag c.taon ∷ flag c.tbon ∷ c.count ∷ []

-- R0 to R15 and the others
abbrev pub parts : State → List ℕ
parts s = s.regs ++ (core_parts s.core ++ clock_parts s.clock)

-- whether two machines are the same: every part of the state, memory, page registers and ports
abbrev pub same_machine : Machine → Machine → Bool
same_machine x y = equal (parts x.state) (parts y.state) && equal x.memory y.memory && equal x.pages y.pages && equal x.ports y.ports
