-- Two wrong answers of each contract that other crates call, beside the right one, which the checker computes. Assumes nothing.
use Rattle.std.proofs.Common.{ℕ, T, List, [], ◌∷◌, set, replicate}
use Rattle.choice.specs.Table.{table_of}
use Rattle.choice.proofs.Rows.{Row, one, some, hold}
use Rattle.machine.specs.declared.Core.{Core}
use Rattle.machine.specs.declared.Vector.{Vector}
use Rattle.machine.specs.Entries.{chosen, vector_of, call_of}
use Rattle.machine.proofs.Opened.{machinery}
use Rattle.machine.specs.State.{reset_state, with_mk, with_pi}

-- interrupts 2 and 5 are pending, 2 is unmasked, and interrupts are disabled
abbrev c : Core
unfolding reset_state
c = with_pi (with_mk reset_state.core 0x2000) 0x2400

-- every word is its address, and every page register is 0
abbrev memory : List ℕ
memory = table_of (λ k. k) 0 64

abbrev g : List ℕ
g = replicate 512 0

abbrev parts : Vector → List ℕ
parts v = v.link ∷ v.mk ∷ v.sw ∷ v.ic ∷ v.fault.ft ∷ v.fault.mfs ∷ []

pub rows : List Row
unfolding machinery
rows =
    -- pending::choose: interrupt 2 while interrupts are disabled; none while interrupts are disabled
    one (chosen c) 5 2 16
    -- pointers::vector: the linkage and the service pointer exchanged; the pointers of the next interrupt
    ∷ some (parts (vector_of memory g 1)) (34 ∷ 35 ∷ 36 ∷ 37 ∷ 0 ∷ 0 ∷ []) (35 ∷ 34 ∷ 35 ∷ 36 ∷ 0 ∷ 0 ∷ []) (36 ∷ 37 ∷ 38 ∷ 39 ∷ 0 ∷ 0 ∷ [])
    -- pointers::vector: of MK, SW and IC outside the memory the status of the first; no status
    ∷ some (parts (vector_of (set memory 35 0x1FFF) (set (set g 257 1) 258 1) 1)) (34 ∷ 0 ∷ 0 ∷ 0 ∷ 0x0080 ∷ 0x2000 ∷ []) (34 ∷ 0 ∷ 0 ∷ 0 ∷ 0x0080 ∷ 0x1000 ∷ []) (34 ∷ 0 ∷ 0 ∷ 0 ∷ 0x0080 ∷ 0 ∷ [])
    -- pointers::call_vector: the IC of call 0; the IC of the call before
    ∷ some (parts (call_of memory g 3)) (42 ∷ 43 ∷ 44 ∷ 48 ∷ 0 ∷ 0 ∷ []) (42 ∷ 43 ∷ 44 ∷ 45 ∷ 0 ∷ 0 ∷ []) (42 ∷ 43 ∷ 44 ∷ 47 ∷ 0 ∷ 0 ∷ [])
    ∷ []

pub rows-hold : T (hold rows)
unfolding rows machinery
rows-hold = tt
