-- Two wrong answers of each contract that other crates call, beside the right one, which the checker computes. Assumes nothing.
use mathlib.Core.Bool.{true, false}
use mathlib.Core.List.{List, [], ◌∷◌}
use lib.Dec.{T}
use lib.ListN.{get_or}
use Rattle.choice.proofs.Rows.{Row, one, some, hold}
use Rattle.machine.specs.declared.State.{State}
use Rattle.machine.specs.State.{with_faults, with_ft, with_mfs, with_hold, with_rem_a, with_rem_b, with_ta_on, with_count, reset_state}
use Rattle.packed.specs.Packed.{in_core, in_clock, marks, mark_at, marks_of, layout, packed}

-- as after reset, but with the hold mark, timer A halted and the counter at 65,536 × 21 + 40,000
abbrev s : State
s = in_clock with_count (in_clock with_ta_on (in_core with_hold reset_state true) false) 1416256

pub rows : List Row
unfolding with_faults with_ft with_mfs with_hold with_rem_a with_rem_b with_ta_on with_count reset_state marks mark_at marks_of layout packed
rows =
    -- marks: the hold mark is bit 15, the bit of interrupts enabled; the mark of timer B stands for that of timer A as well
    one (marks_of s) 10 9 14
    -- pack: the low word of the counter loses its bit 0; the words of the counter are exchanged
    ∷ some (get_or (packed s) 32 9 ∷ get_or (packed s) 33 9 ∷ []) (21 ∷ 40000 ∷ []) (21 ∷ 7232 ∷ []) (40000 ∷ 21 ∷ [])
    -- pack: the remainders are exchanged; the remainders stand in words 26 and 27
    ∷ some (let w = packed (in_clock with_rem_b (in_clock with_rem_a s 5) 6) in get_or w 24 9 ∷ get_or w 25 9 ∷ get_or w 26 9 ∷ get_or w 27 9 ∷ []) (5 ∷ 6 ∷ 0 ∷ 0 ∷ []) (6 ∷ 5 ∷ 0 ∷ 0 ∷ []) (0 ∷ 0 ∷ 5 ∷ 6 ∷ [])
    -- pack: the memory fault status and FT are exchanged; the memory fault status stands in word 27
    ∷ some (let w = packed (in_core with_mfs (in_core with_ft s 5) 6) in get_or w 20 9 ∷ get_or w 26 9 ∷ get_or w 27 9 ∷ []) (5 ∷ 6 ∷ 0 ∷ []) (6 ∷ 5 ∷ 0 ∷ []) (5 ∷ 0 ∷ 6 ∷ [])
    ∷ []

pub rows-hold : T (hold rows)
unfolding rows with_faults with_ft with_mfs with_hold with_rem_a with_rem_b with_ta_on with_count reset_state marks mark_at marks_of layout packed
rows-hold = tt
