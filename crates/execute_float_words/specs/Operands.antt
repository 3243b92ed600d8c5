-- The two floats that an operation works on, as mantissas and exponents; and the operations on them that the code chooses among. Assumes nothing.
use Rattle.std.specs.Prelude.{ℕ, ◌≡◌, ◌+◌, List, ℤ}
use Rattle.float.specs.Float.{Result}
use Rattle.float.specs.Words.{mantissa24, mantissa40, exponent_of}
use Rattle.float_add.specs.Add.{sum_of, difference_of}
use Rattle.float_mul.specs.Multiply.{product_of}
use Rattle.float_div.specs.Divide.{quotient_of}
use Rattle.float_convert.specs.Convert.{negated_of, absolute_of}
use Rattle.machine.specs.declared.Instruction.{Instruction}
use Rattle.isa.specs.Fields.{field_a, register}
use Rattle.isa.specs.Addressing.{operand_word, accumulator}
use Rattle.execute_float_words.specs.declared.operands.Both.{Both}
use Rattle.execute_float_words.specs.declared.operands.Arithmetic.{Arithmetic}
use Rattle.execute_float_words.specs.declared.operands.Arithmetic.TheVariants.{Sum, Difference, Product, Quotient}
use Rattle.execute_float_words.specs.declared.operands.Change.{Change}
use Rattle.execute_float_words.specs.declared.operands.Change.TheVariants.{Absolute, Negative}

-- the accumulator's mantissa and exponent, and the operand's
pub record Operands : Type 0 where
  pub a : ℕ
  pub ea : ℕ
  pub b : ℕ
  pub eb : ℕ

-- the accumulator and the operand, with mantissas of 24 bits
unfoldable pub operands24 : List ℕ → Instruction → ℕ → ℕ → Operands
operands24 regs n x y =
    let q = register regs (accumulator n + 1) in
    let y' = operand_word regs n 1 y in
    record { a = mantissa24 (register regs (accumulator n)) q; ea = exponent_of q; b = mantissa24 (operand_word regs n 0 x) y'; eb = exponent_of y' }

-- with mantissas of 40 bits
unfoldable pub operands40 : List ℕ → Instruction → ℕ → ℕ → ℕ → Operands
operands40 regs n x y z =
    let k = field_a n.first in
    let q = register regs (k + 1) in
    let y' = operand_word regs n 1 y in
    record { a = mantissa40 (register regs k) q (register regs (k + 2)); ea = exponent_of q; b = mantissa40 (operand_word regs n 0 x) y' (operand_word regs n 2 z); eb = exponent_of y' }

-- the code's two floats are these
abbrev pub Are : {W : ℕ} → Both W → Operands → Type 0
Are p o = record { a = p.a.mantissa.bits; ea = p.a.exponent; b = p.b.mantissa.bits; eb = p.b.exponent } ≡ o

-- sum, difference, product or quotient
abbrev pub arithmetic : ℕ → Arithmetic → ℤ → ℕ → ℤ → ℕ → Result
arithmetic w Sum = sum_of w
arithmetic w Difference = difference_of w
arithmetic w Product = product_of w
arithmetic w Quotient = quotient_of w

-- the absolute value or the negation
abbrev pub resigned : Change → ℤ → ℕ → Result
resigned Absolute = absolute_of 24
resigned Negative = negated_of 24
