-- Two wrong answers of each contract that other crates call, each beside the right one, which the checker computes. Assumes nothing.
use Prim.Native.Nat.{ℕ, ◌+◌}
use mathlib.Core.List.{List, [], ◌∷◌}
use lib.Dec.{T}
use lib.ListN.{get_or, set}
use Rattle.choice.specs.Table.{table_of}
use Rattle.choice.proofs.Rows.{Row, some, hold}
use Rattle.machine.specs.declared.Instruction.{Instruction}
use Rattle.machine.specs.Machine.{Effect}
use Rattle.machine.proofs.Opened.{machinery}
use Rattle.isa.specs.Effects.{Context}
use Rattle.isa.specs.Integers.{integer_operation, logical_operation}
use Rattle.isa.proofs.OpenWords.{words}
use Rattle.isa.proofs.OpenInstructions.{instructions}
use Rattle.effect.specs.Work.{context}

-- R1 is given, and each other register has 1000 plus its number; CS is Z, PI is 0
abbrev before : ℕ → Context
before x = context (set (table_of (λ k. 0x1000 + k) 0 16) 1 x) 0x2000 0

-- an instruction of two words, with the derived address 300
abbrev coded : ℕ → ℕ → Instruction
coded form first = record { ic = 0x0100; form = form; first = first; second = 0x0300; address = 0x0300 }

-- R1, R2, CS and PI
abbrev parts : Effect → List ℕ
parts e = get_or e.regs 1 0 ∷ get_or e.regs 2 0 ∷ e.cs ∷ e.pi ∷ []

pub rows : List Row
unfolding machinery words instructions
rows =
    -- integer_operation: DV with the quotient rounded down; DV with quotient and remainder exchanged
    some (parts (integer_operation (before 0xFFF9) (coded 0x264C 0xD010) 2 0 76))
    (0xFFFD ∷ 0xFFFF ∷ 1 ∷ 0 ∷ []) (0xFFFC ∷ 1 ∷ 1 ∷ 0 ∷ []) (0xFFFF ∷ 0xFFFD ∷ 1 ∷ 0 ∷ [])
    -- logical_operation: CBL with the upper limit outside; CBL with the limits exchanged
    ∷ some (parts (logical_operation (before 9) (coded 0x265C 0xF410) 3 9 92))
    (9 ∷ 0x1002 ∷ 2 ∷ 0 ∷ []) (9 ∷ 0x1002 ∷ 4 ∷ 0 ∷ []) (9 ∷ 0x1002 ∷ 8 ∷ 0 ∷ [])
    ∷ []

pub rows-hold : T (hold rows)
unfolding rows machinery words instructions
rows-hold = tt
