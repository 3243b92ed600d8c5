-- Two wrong answers of each contract that other crates call, beside the right one, which the checker computes. Assumes nothing.
use Prim.Native.Nat.{ℕ}
use mathlib.Core.List.{List, [], ◌∷◌}
use lib.Dec.{T}
use Rattle.choice.proofs.Rows.{Row, one, some, hold}
use Rattle.twos_complement.specs.Whole.{signed}
use Rattle.float.specs.Float.{given}
use Rattle.float.proofs.Wrong.{parts}
use Rattle.float_convert.specs.Convert.{compared_of}
use Rattle.machine.specs.declared.Instruction.{Instruction}
use Rattle.isa.proofs.OpenWords.{words}
use Rattle.isa.proofs.OpenFloats.{floats}
use Rattle.isa.proofs.OpenInstructions.{instructions}
use Rattle.execute_float_words.specs.declared.operands.Arithmetic.TheVariants.{Product}
use Rattle.execute_float_words.specs.declared.operands.Change.TheVariants.{Absolute}
use Rattle.execute_float_words.specs.Operands.{Operands, operands24, operands40, arithmetic, resigned}

-- two floats: the accumulator and the operand
abbrev four : Operands → List ℕ
four p = p.a ∷ p.ea ∷ p.b ∷ p.eb ∷ []

-- R0 to R6; the others are not looked at
abbrev registers : List ℕ
registers = 0x4001 ∷ 0x0201 ∷ 0x4003 ∷ 0x0402 ∷ 0x4005 ∷ 0x0603 ∷ 0x0007 ∷ []

-- an instruction of this form, with RA = R2 and RB = R4
abbrev instruction : ℕ → Instruction
instruction form = record { ic = 0x0100; form = form; first = 0x0024; second = 0; address = 0 }

pub rows : List Row
rows =
    -- operands::both24: RA as the accumulator of a base relative FA; RB as its operand
    some (four (operands24 registers (instruction 0x123C) 0x4007 0x0804))
    (0x40_0102 ∷ 129 ∷ 0x40_0708 ∷ 132 ∷ []) (0x40_0304 ∷ 130 ∷ 0x40_0708 ∷ 132 ∷ []) (0x40_0102 ∷ 129 ∷ 0x40_0506 ∷ 131 ∷ [])
    -- operands::both40: the second word of RA as its third; the words read as the operand of a register direct EFA
    ∷ some (four (operands40 registers (instruction 0x113D) 0x4007 0x0804 0x0009))
    (0x40_0304_4005 ∷ 130 ∷ 0x40_0506_0007 ∷ 131 ∷ []) (0x40_0304_0402 ∷ 130 ∷ 0x40_0506_0007 ∷ 131 ∷ []) (0x40_0304_4005 ∷ 130 ∷ 0x40_0708_0009 ∷ 132 ∷ [])
    -- operands::combine: the quotient instead of the product; the sum
    ∷ some (parts (given 24 (arithmetic 24 Product (signed 24 0x40_0000) 129 (signed 24 0x60_0000) 128)))
    (0x60_0000 ∷ 128 ∷ 0 ∷ 0 ∷ []) (0x55_5555 ∷ 129 ∷ 0 ∷ 0 ∷ []) (0x70_0000 ∷ 129 ∷ 0 ∷ 0 ∷ [])
    -- operands::change24: the absolute value of the accumulator; the operand as it is
    ∷ some (parts (given 24 (resigned Absolute (signed 24 0xA0_0000) 128)))
    (0x60_0000 ∷ 128 ∷ 0 ∷ 0 ∷ []) (0x40_0000 ∷ 129 ∷ 0 ∷ 0 ∷ []) (0xA0_0000 ∷ 128 ∷ 0 ∷ 0 ∷ [])
    -- operands::compare_both: the operand compared with the accumulator; the exponents exchanged
    ∷ one (compared_of (signed 24 0x40_0000) 129 (signed 24 0x20_0000) 128) 4 1 2
    ∷ []

pub rows-hold : T (hold rows)
unfolding rows words floats instructions operands24 operands40
rows-hold = tt
