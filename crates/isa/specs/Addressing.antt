-- Addressing modes (4.3, table V): the derived address before indirection or, of an immediate mode, the operand itself; and the derived operand.
-- Assumes nothing.
use Rattle.std.specs.Prelude.{ℕ, ◌+◌, ◌-◌, Bool, true, false, cond, List, [], ◌∷◌, eqb}
use Rattle.choice.specs.Select.{select}
use Rattle.page.specs.Spans.{wrapped}
use Rattle.decode.specs.Forms.{mode_of, operation_of}
use Rattle.decode.specs.Modes.{R, B, BX, ISP, ISN, D, I, IM, EXT, ICR}
use Rattle.machine.specs.declared.Instruction.{Instruction}
use Rattle.word.specs.Pair.{pair}
use Rattle.isa.specs.Fields.{field_a, field_b, base_register, displacement, signed_displacement, register, indexed}

-- the address of a mode before indirection, or its immediate operand, from the registers, IC and the instruction's words
unfoldable pub derived_from : ℕ → List ℕ → ℕ → ℕ → ℕ → ℕ
derived_from mode regs ic first second =
    let direct = indexed regs (field_b first) second in
    select mode
    ((B, wrapped (register regs (base_register first) + displacement first)) ∷
    (BX, indexed regs (field_b first) (register regs (base_register first))) ∷
    (ISP, field_b first + 1) ∷
    (ISN, 65535 - field_b first) ∷
    (D, direct) ∷
    (I, direct) ∷
    (IM, direct) ∷
    (EXT, second) ∷
    (ICR, wrapped (ic + signed_displacement first)) ∷
    [])
    0

-- the modes whose operand is in memory
unfoldable pub in_memory : ℕ → Bool
in_memory mode = select mode ((B, true) ∷ (BX, true) ∷ (D, true) ∷ (I, true) ∷ []) false

-- those whose operand is in the instruction
unfoldable pub is_immediate : ℕ → Bool
is_immediate mode = select mode ((ISP, true) ∷ (ISN, true) ∷ (IM, true) ∷ (EXT, true) ∷ []) false

-- those with a base register, and so with an accumulator of their own
unfoldable pub is_based : ℕ → Bool
is_based mode = select mode ((B, true) ∷ (BX, true) ∷ []) false

-- the one whose operand is in registers
unfoldable pub is_register : ℕ → Bool
is_register mode = eqb mode (R)

-- word k of the derived operand: register RB + k, or x, the word that was read as number k
unfoldable pub operand_word : List ℕ → Instruction → ℕ → ℕ → ℕ
operand_word regs n k x = cond (is_register (mode_of n.form)) (register regs (field_b n.first + k)) x

-- a single precision operand
unfoldable pub operand : List ℕ → Instruction → ℕ → ℕ
operand regs n x = cond (is_immediate (mode_of n.form)) n.address (operand_word regs n 0 x)

-- a double precision operand
unfoldable pub double_operand : List ℕ → Instruction → ℕ → ℕ → ℕ
double_operand regs n x y = pair (operand_word regs n 0 x) (operand_word regs n 1 y)

-- 4.4.1: with a base register the accumulator of double precision and of floats is R0 with R1, any other R2
unfoldable pub base_accumulator : ℕ → ℕ
base_accumulator operation = select operation ((39, 0) ∷ (48, 0) ∷ (60, 0) ∷ (68, 0) ∷ (74, 0) ∷ (79, 0) ∷ (94, 0) ∷ []) 2

-- the number of the accumulator, RA
unfoldable pub accumulator : Instruction → ℕ
accumulator n = cond (is_based (mode_of n.form)) (base_accumulator (operation_of n.form)) (field_a n.first)
