-- Two wrong answers of each contract that other crates call, beside the right one, which the checker computes. Assumes nothing.
use mathlib.Core.List.{List, [], ◌∷◌}
use lib.Dec.{T}
use Rattle.choice.proofs.Rows.{Row, some, hold, flag}
use Rattle.machine.specs.State.{reset_state}

pub rows : List Row
unfolding reset_state
rows =
    -- reset_state: interrupts are enabled; timer B does not run
    some (flag reset_state.core.enabled ∷ flag reset_state.clock.taon ∷ flag reset_state.clock.tbon ∷ []) (0 ∷ 1 ∷ 1 ∷ []) (1 ∷ 1 ∷ 1 ∷ []) (0 ∷ 1 ∷ 0 ∷ [])
    -- reset_state: the remainder of timer A is 1; the remainder of timer B is 1
    ∷ some (reset_state.clock.rema ∷ reset_state.clock.remb ∷ []) (0 ∷ 0 ∷ []) (1 ∷ 0 ∷ []) (0 ∷ 1 ∷ [])
    ∷ []

pub rows-hold : T (hold rows)
unfolding rows reset_state
rows-hold = tt
