-- Two wrong answers of each contract that other crates call, beside the right one, which the checker computes. Assumes nothing.
use Prim.Native.Nat.{ℕ}
use mathlib.Core.List.{List, [], ◌∷◌}
use lib.Dec.{T}
use lib.ListN.{replicate}
use Rattle.choice.proofs.Rows.{Row, some, hold}
use Rattle.std.specs.Prelude.{Ok, Err, map}
use Rattle.machine.specs.declared.SizeError.TheVariants.{BadMemory, BadPages, BadPorts}
use Rattle.machine.specs.declared.RunError.TheVariants.{BadSize, BadDurations, BadBudget, BadCounter}
use Rattle.machine.specs.State.{reset_state, with_clock, with_count}
use Rattle.machine.specs.Machine.{machine}
use Rattle.machine.specs.Runs.{run_of, number_of, answer_of}
use Rattle.machine.proofs.Opened.{machinery}

-- the number of the answer to a run from a counter, of a budget, with so many durations
abbrev answered : ℕ → ℕ → ℕ → ℕ
answered count budget n =
    number_of (answer_of (machine (with_clock reset_state (with_count reset_state.clock count)) (replicate 4096 0) (replicate 512 0) (replicate 1024 0)) (run_of budget (replicate n 100)))

pub rows : List Row
unfolding machinery
rows =
    -- number: a budget that is too large is 5, and a counter that would pass its end is 4; a memory of another size is answered by 0, as a budget that is spent
    some (number_of (Ok tt) ∷ map (λ e. number_of (Err e)) (BadSize BadMemory ∷ BadSize BadPages ∷ BadSize BadPorts ∷ BadDurations ∷ BadBudget ∷ BadCounter ∷ []))
    (0 ∷ 1 ∷ 2 ∷ 3 ∷ 17 ∷ 4 ∷ 5 ∷ []) (0 ∷ 1 ∷ 2 ∷ 3 ∷ 17 ∷ 5 ∷ 4 ∷ []) (0 ∷ 0 ∷ 2 ∷ 3 ∷ 17 ∷ 4 ∷ 5 ∷ [])
    -- run: a budget of 1,000,001 steps is not refused; a counter that would pass its end is not refused
    ∷ some (answered 0 1000000 257 ∷ answered 0 1000001 257 ∷ answered 4294967295 1 257 ∷ []) (0 ∷ 4 ∷ 5 ∷ []) (0 ∷ 0 ∷ 5 ∷ []) (0 ∷ 4 ∷ 0 ∷ [])
    -- run: the durations are asked for after the budget; 258 durations are not refused
    ∷ some (answered 0 1000001 256 ∷ answered 0 0 258 ∷ []) (17 ∷ 17 ∷ []) (4 ∷ 17 ∷ []) (17 ∷ 0 ∷ [])
    ∷ []

pub rows-hold : T (hold rows)
unfolding rows machinery
rows-hold = tt
