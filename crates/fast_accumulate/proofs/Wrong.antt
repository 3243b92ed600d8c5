-- Two wrong answers of each contract that other crates call, beside the right one, which the checker computes. Assumes nothing.
use Rattle.std.proofs.Common.{Ok, Err, Result}
use Prim.Native.Nat.{ℕ}
use mathlib.Core.List.{List, [], ◌∷◌}
use lib.Bits.{bit_or}
use lib.Dec.{T}
use lib.ListN.{replicate}
use Rattle.choice.proofs.Rows.{Row, some, hold}
use Rattle.page.specs.declared.Access.TheVariants.{Read}
use Rattle.page.specs.declared.Refusal.{Refusal}
use Rattle.page.specs.Spans.{checked, words_of}
use Rattle.machine.specs.declared.Instruction.{Instruction}
use Rattle.machine.specs.Machine.{Effect}
use Rattle.machine.specs.Step.{affected}
use Rattle.machine.proofs.Opened.{machinery}
use Rattle.machine.proofs.Samples.{state_at}
use Rattle.machine.specs.State.{Processor, joined, with_pi}
use Rattle.isa.specs.Accesses.{at_operand}
use Rattle.isa.proofs.OpenInstructions.{instructions}
use Rattle.operand_words.specs.declared.Words.{Words}
use Rattle.operand_words.specs.Gathers.{gathered}

-- CS is Z, the key 3, the address state 1
abbrev p : Processor
p = let s = state_at (replicate 16 0) 0x0100 0x2031 in joined (with_pi s.core 0x0400) s.regs

-- what an effect comes to that goes on to 0102, sets CS to P and adds PI bit 4
abbrev e : Effect
e = record { regs = p.regs; ic = 0x0102; cs = 4; pi = bit_or p.core.pi 0x0800; words = [] }

-- IC, SW and PI
abbrev shown : Processor → List ℕ
shown q = q.core.ic ∷ q.core.sw ∷ q.core.pi ∷ []

-- every page register is 0
abbrev g : List ℕ
g = replicate 512 0

abbrev memory : List ℕ
memory = 5 ∷ 6 ∷ 7 ∷ 8 ∷ []

-- DL with its operand at address 1
abbrev n : Instruction
n = record { ic = 0x0100; form = 0x2627; first = 0x8600; second = 1; address = 1 }

-- 1 and the words, or 0, the FT bit and the status
abbrev parts : Result Words Refusal → List ℕ
parts (Ok r) = 1 ∷ r.x ∷ r.y ∷ r.z ∷ []
parts (Err b) = 0 ∷ b.ft ∷ b.mfs ∷ []

pub rows : List Row
unfolding machinery instructions gathered
rows =
    -- finish::done: PI bits that were pending lost; key and address state lost
    some (shown (affected p e)) (0x0102 ∷ 0x4031 ∷ 0x0C00 ∷ []) (0x0102 ∷ 0x4031 ∷ 0x0800 ∷ []) (0x0102 ∷ 0x4000 ∷ 0x0C00 ∷ [])
    -- operand::read_operand: the words from the next address on; one word too many
    ∷ some (parts (gathered (checked 0 0 g 4 (at_operand n 2) Read) (words_of 0 0 g 4 (at_operand n 2) memory)))
    (1 ∷ 6 ∷ 7 ∷ 0 ∷ []) (1 ∷ 7 ∷ 8 ∷ 0 ∷ []) (1 ∷ 6 ∷ 7 ∷ 8 ∷ [])
    ∷ []

pub rows-hold : T (hold rows)
unfolding rows machinery instructions gathered
rows-hold = tt
