-- Two wrong answers of each contract that other crates call, each beside the right one, which the checker computes. Assumes nothing.
use Prim.Native.Nat.{ℕ, ◌+◌}
use mathlib.Core.List.{List, [], ◌∷◌}
use lib.Dec.{T}
use lib.ListN.{get_or, set}
use Rattle.choice.specs.Table.{table_of}
use Rattle.choice.proofs.Rows.{Row, some, hold}
use Rattle.machine.specs.declared.Instruction.{Instruction}
use Rattle.machine.specs.Machine.{Effect}
use Rattle.machine.proofs.Opened.{machinery}
use Rattle.isa.specs.Effects.{Context}
use Rattle.isa.specs.Floats.{float_operation}
use Rattle.isa.proofs.OpenWords.{words}
use Rattle.isa.proofs.OpenFloats.{floats}
use Rattle.isa.proofs.OpenInstructions.{instructions}
use Rattle.effect.specs.Work.{context}

-- R1 and R2 have one half, and each other register has 1000 plus its number; CS is Z, PI is 0
abbrev before : Context
before = context (set (set (table_of (λ k. 0x1000 + k) 0 16) 1 0x4000) 2 0) 0x2000 0

-- FA with RA 1
abbrev add : Instruction
add = record { ic = 0x0100; form = 0x263C; first = 0xA810; second = 0x0300; address = 0x0300 }

-- R1, R2, CS and PI
abbrev parts : Effect → List ℕ
parts e = get_or e.regs 1 0 ∷ get_or e.regs 2 0 ∷ e.cs ∷ e.pi ∷ []

pub rows : List Row
unfolding machinery words floats instructions
rows =
    -- float_operation: FA subtracts; FA adds mantissas without alignment
    some (parts (float_operation before add 0x4000 0x00FF 0 60)) (0x6000 ∷ 0 ∷ 4 ∷ 0 ∷ []) (0x4000 ∷ 0x00FF ∷ 4 ∷ 0 ∷ []) (0x4000 ∷ 1 ∷ 4 ∷ 0 ∷ [])
    ∷ []

pub rows-hold : T (hold rows)
unfolding rows machinery words floats instructions
rows-hold = tt
