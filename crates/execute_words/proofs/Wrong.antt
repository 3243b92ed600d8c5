-- Two wrong answers of each contract that other crates call, each beside the right one, which the checker computes. Assumes nothing.
use Rattle.std.proofs.Common.{ℕ, ◌+◌, T, List, [], ◌∷◌, get_or, set}
use Rattle.choice.specs.Table.{table_of}
use Rattle.choice.proofs.Rows.{Row, some, hold}
use Rattle.machine.specs.declared.Instruction.{Instruction}
use Rattle.machine.specs.Machine.{Effect}
use Rattle.machine.proofs.Opened.{machinery}
use Rattle.isa.specs.Effects.{Context}
use Rattle.isa.specs.Words.{jump_operation, load_operation, store_operation}
use Rattle.isa.proofs.OpenWords.{words}
use Rattle.isa.proofs.OpenInstructions.{instructions}
use Rattle.effect.specs.Work.{context}

-- R1 and R2 are given, and each other register has 1000 plus its number; CS is N, PI is 0
abbrev before : ℕ → ℕ → Context
before x y = context (set (set (table_of (λ k. 0x1000 + k) 0 16) 1 x) 2 y) 0x1000 0

-- an instruction of two words, with the derived address 300
abbrev coded : ℕ → ℕ → Instruction
coded form first = record { ic = 0x0100; form = form; first = first; second = 0x0300; address = 0x0300 }

-- R1, CS, IC and the first word to store
abbrev parts : Effect → List ℕ
parts e = get_or e.regs 1 0 ∷ e.cs ∷ e.ic ∷ get_or e.words 0 0 ∷ []

pub rows : List Row
unfolding machinery words instructions
rows =
    -- jumps::jump_operation: SOJ jumps where RA becomes zero; SOJ keeps CS
    some (parts (jump_operation (before 1 0) (coded 0x261A 0x7310) 0 26)) (0 ∷ 2 ∷ 0x0102 ∷ 0 ∷ []) (0 ∷ 2 ∷ 0x0300 ∷ 0 ∷ []) (0 ∷ 1 ∷ 0x0102 ∷ 0 ∷ [])
    -- loads::load_operation: LUB into the upper byte of RA; LUB from the lower byte of the word
    ∷ some (parts (load_operation (before 0x1234 0) (coded 0x262A 0x8B10) 0x56AB 0 0 42))
    (0x1256 ∷ 4 ∷ 0x0102 ∷ 0 ∷ []) (0x5634 ∷ 4 ∷ 0x0102 ∷ 0 ∷ []) (0x12AB ∷ 4 ∷ 0x0102 ∷ 0 ∷ [])
    -- stores::store_operation: SRM stores where the mask has zeros; SRM stores all of RA
    ∷ some (parts (store_operation (before 0x1234 0x00FF) (coded 0x2631 0x9710) 0xABCD 49))
    (0x1234 ∷ 1 ∷ 0x0102 ∷ 0xAB34 ∷ []) (0x1234 ∷ 1 ∷ 0x0102 ∷ 0x12CD ∷ []) (0x1234 ∷ 1 ∷ 0x0102 ∷ 0x1234 ∷ [])
    ∷ []

pub rows-hold : T (hold rows)
unfolding rows machinery words instructions
rows-hold = tt
