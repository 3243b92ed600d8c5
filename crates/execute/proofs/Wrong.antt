-- Two wrong answers of each contract that other crates call, each beside the right one, which the checker computes. Assumes nothing.
use Prim.Native.Nat.{ℕ, ◌+◌}
use mathlib.Core.List.{List, [], ◌∷◌}
use lib.Dec.{T}
use lib.ListN.{replicate}
use Rattle.choice.specs.Table.{table_of}
use Rattle.choice.proofs.Rows.{Row, some, hold}
use Rattle.decode.specs.Forms.{operation_of}
use Rattle.machine.specs.declared.Instruction.{Instruction}
use Rattle.machine.specs.Machine.{Effect, span_from}
use Rattle.machine.specs.Step as spec
use Rattle.machine.proofs.Opened.{machinery}
use Rattle.machine.proofs.Samples.{state_at}
use Rattle.machine.specs.State.{Processor, joined, with_pi}
use Rattle.isa.specs.Execute.{ordinary}
use Rattle.isa.specs.Mil1750.{context_of}
use Rattle.isa.proofs.OpenWords.{words}
use Rattle.isa.proofs.OpenInstructions.{instructions}

-- IC is 100, CS is P, PS is 3, and PI bit 15 is set
abbrev before : Processor
before = let s = state_at (table_of (λ k. 0x1000 + k) 0 16) 0x0100 0x4030 in joined (with_pi s.core 0x0001) s.regs

-- INCM by one of the word at address 1, which is 7FFF
abbrev increment : Instruction
increment = record { ic = 0x0100; form = 0x2638; first = 0xA300; second = 1; address = 1 }

abbrev memory : List ℕ
memory = 10 ∷ 0x7FFF ∷ 12 ∷ []

-- page 0 for every page, with lock 3
abbrev pages : List ℕ
pages = replicate 512 0x3000

abbrev does : Effect
does = ordinary (context_of before) increment 0x7FFF 0 0 (operation_of increment.form)

-- IC, SW and PI, then the memory
abbrev parts : Processor → List ℕ → List ℕ
parts p m = p.core.ic ∷ p.core.sw ∷ p.core.pi ∷ m

pub rows : List Row
unfolding machinery words instructions
rows =
    -- work: INCM without its overflow in PI; INCM without its store
    some (parts (spec.affected before does) (spec.stored before.core memory pages does (span_from 1 1)))
    (0x0102 ∷ 0x1030 ∷ 0x0801 ∷ 10 ∷ 0x8000 ∷ 12 ∷ [])
    (0x0102 ∷ 0x1030 ∷ 0x0001 ∷ 10 ∷ 0x8000 ∷ 12 ∷ [])
    (0x0102 ∷ 0x1030 ∷ 0x0801 ∷ 10 ∷ 0x7FFF ∷ 12 ∷ [])
    ∷ []

pub rows-hold : T (hold rows)
unfolding rows machinery words instructions
rows-hold = tt
