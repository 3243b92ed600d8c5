-- Two wrong answers of each contract that other crates call, each beside the right one, which the checker computes. Assumes nothing.
use Rattle.std.proofs.Common.{ℕ, ◌+◌, ◌-◌, T, List, [], ◌∷◌, take}
use Rattle.choice.specs.Table.{table_of}
use Rattle.choice.proofs.Rows.{Row, one, some, hold}
use Rattle.word.specs.Pair.{pair}
use Rattle.page.specs.Spans.{wrapped}
use Rattle.machine.specs.declared.Instruction.{Instruction}
use Rattle.isa.specs.Fields.{field_a, field_b, register, with_register, registers_from}
use Rattle.isa.specs.Words.{register_pair}
use Rattle.isa.specs.Addressing.{derived_from, operand_word, operand, double_operand, accumulator}
use Rattle.isa.proofs.OpenInstructions.{instructions}

-- R0 has 1000, R1 has 1001, and so on
abbrev regs : List ℕ
regs = table_of (λ k. 0x1000 + k) 0 16

-- an instruction by its form, its first word and its address
abbrev coded : ℕ → ℕ → ℕ → Instruction
coded form first address = record { ic = 0x0100; form = form; first = first; second = address; address = address }

pub rows : List Row
unfolding pair wrapped instructions
rows =
    -- modes::derive: a branch measured from the next instruction; R0 as an index
    some (derived_from 10 regs 0x0100 0x74FE 0 ∷ derived_from 6 regs 0x0100 0x8010 0x0200 ∷ [])
    (0x00FE ∷ 0x0200 ∷ []) (0x00FF ∷ 0x0200 ∷ []) (0x00FE ∷ 0x1200 ∷ [])
    -- modes::operand_word: RB itself as the second word; the word read in place of a register
    ∷ one (operand_word regs (coded 0x113B 0xA72F 0) 1 7) 0x1000 0x100F 7
    -- modes::operand_of: the contents of RB in place of the constant; the word read in place of the constant
    ∷ one (operand regs (coded 0x1437 0xA223 4) 7) 4 0x1003 7
    -- modes::double_operand: the words exchanged; RB and the next in place of the words read
    ∷ one (double_operand regs (coded 0x263B 0xA612 0x0200) 0x1234 0xABCD) 0x1234ABCD 0xABCD1234 0x10021003
    -- modes::accumulator_of: R2 for a double load with a base register; bits 8 to 11 of the displacement
    ∷ one (accumulator (coded 0x1227 0x0512 0)) 0 2 1
    -- fields::field_a: bits 12 to 15; bits 4 to 7
    ∷ one (field_a 0x8123) 2 3 1
    -- fields::field_b: bits 8 to 11; bits 8 to 15
    ∷ one (field_b 0x8123) 3 2 0x23
    -- fields::get: nothing past R15; R15 for every number past it
    ∷ one (register regs 17) 0x1001 0 0x100F
    -- fields::put: nothing past R15; R0 for every number past R15
    ∷ some (take 3 (with_register regs 17 7)) (0x1000 ∷ 7 ∷ 0x1002 ∷ []) (0x1000 ∷ 0x1001 ∷ 0x1002 ∷ []) (7 ∷ 0x1001 ∷ 0x1002 ∷ [])
    -- fields::pair_at: the words exchanged; the second of R15 and R0 missing
    ∷ one (register_pair regs 15) 0x100F1000 0x1000100F 0x100F0000
    -- fields::registers_from: the last register not counted; the registers from b on to a
    ∷ one (registers_from 14 1) 4 3 14
    -- fields::less: the operands exchanged; 0 for every result below 0
    ∷ one (wrapped (1 + (65536 - 3))) 65534 2 0
    ∷ []

pub rows-hold : T (hold rows)
unfolding rows pair wrapped instructions
rows-hold = tt
