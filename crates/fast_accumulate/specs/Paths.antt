-- What the operations with a fast path come to, by that path: what goes into the accumulator, which word is stored, whether the
-- derived address is gone to. Assumes nothing.
use Rattle.std.specs.Prelude.{ℕ, Bool, false, cond, List, [], ◌∷◌, eqb}
use Rattle.std.specs.Int.Bits.{bit_and, bit_or}
use Rattle.choice.specs.Select.{select}
use Rattle.word.specs.Status.{status}
use Rattle.word.specs.Condition.{jump_taken, branch_taken}
use Rattle.fixed_add.specs.declared.Outcome.{Outcome}
use Rattle.fixed_add.specs.Fixed.{sum, difference}
use Rattle.decode.specs.Forms.{operation_of}
use Rattle.machine.specs.declared.Instruction.{Instruction}
use Rattle.isa.specs.Fields.{field_a, register}
use Rattle.isa.specs.Addressing.{accumulator}

-- w bits as they are, and their status
unfoldable pub plain : ℕ → ℕ → Outcome ℕ
plain w x = record { value = x; cs = status w x; overflow = false }

-- word_path: A S OR AND of the accumulator a and the operand o; L
unfoldable pub into_single : ℕ → ℕ → ℕ → Outcome ℕ
into_single operation a o =
    select operation
    ((55, sum 16 a o) ∷
    (63, difference 16 a o) ∷
    (81, plain 16 (bit_or a o)) ∷
    (82, plain 16 (bit_and a o)) ∷
    [])
    (plain 16 o)

-- double_path: DA DS; DL
unfoldable pub into_double : ℕ → ℕ → ℕ → Outcome ℕ
into_double operation a o = select operation ((59, sum 32 a o) ∷ (67, difference 32 a o) ∷ []) (plain 32 o)

-- the first of the two registers
unfoldable pub target : Instruction → ℕ
target n = cond (eqb (operation_of n.form) 39) (accumulator n) (field_a n.first)

-- store_path: ST; STC
unfoldable pub word_stored : List ℕ → Instruction → ℕ
word_stored regs n = cond (eqb (operation_of n.form) 45) (register regs (accumulator n)) (field_a n.first)

-- branch_path: JC; the branches
unfoldable pub is_taken : Instruction → ℕ → Bool
is_taken n cs = cond (eqb (operation_of n.form) 24) (jump_taken (field_a n.first) cs) (branch_taken (operation_of n.form) cs)
