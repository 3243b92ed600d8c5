-- Two wrong answers of each contract that other crates call, each beside the right one, which the checker computes. Assumes nothing.
use Prim.Native.Nat.{ℕ, ◌+◌}
use mathlib.Core.List.{List, [], ◌∷◌}
use lib.Dec.{T}
use lib.ListN.{get_or}
use Rattle.choice.specs.Table.{table_of}
use Rattle.choice.proofs.Rows.{Row, some, hold}
use Rattle.machine.specs.declared.Instruction.{Instruction}
use Rattle.machine.specs.Machine.{Effect}
use Rattle.machine.proofs.Opened.{machinery}
use Rattle.isa.specs.Effects.{Context}
use Rattle.isa.specs.Words.{bit_operation, shift_operation}
use Rattle.isa.proofs.OpenWords.{words}
use Rattle.isa.proofs.OpenInstructions.{instructions}
use Rattle.effect.specs.Work.{context}

-- R0 has 1000, R1 has 1001, and so on; CS is Z, PI is 0
abbrev before : Context
before = context (table_of (λ k. 0x1000 + k) 0 16) 0x2000 0

-- an instruction of one word
abbrev coded : ℕ → ℕ → Instruction
coded form first = record { ic = 0x0100; form = form; first = first; second = 0; address = 0 }

-- R1, R4 and CS
abbrev parts : Effect → List ℕ
parts e = get_or e.regs 1 0 ∷ get_or e.regs 4 0 ∷ e.cs ∷ []

pub rows : List Row
unfolding machinery words instructions
rows =
    -- bit::bit_operation: SVBR with its result in RA; SVBR with the bits counted from the least significant
    some (parts (bit_operation before (coded 0x1107 0x5A14) 0 7)) (0x1001 ∷ 0x5004 ∷ 2 ∷ []) (0x5004 ∷ 0x1004 ∷ 2 ∷ []) (0x1001 ∷ 0x1006 ∷ 2 ∷ [])
    -- shifts::shift_operation: SLL by one place less; SLL as a circular shift
    ∷ some (parts (shift_operation before (coded 0x110A 0x6034) 10)) (0x1001 ∷ 0x0040 ∷ 4 ∷ []) (0x1001 ∷ 0x8020 ∷ 1 ∷ []) (0x1001 ∷ 0x0041 ∷ 4 ∷ [])
    ∷ []

pub rows-hold : T (hold rows)
unfolding rows machinery words instructions
rows-hold = tt
