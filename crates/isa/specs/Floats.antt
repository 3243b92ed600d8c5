-- Floating point operations (5.60 to 5.95): what each does, by its paragraph. F.P. has a mantissa of 24 bits and two words, E.F.P. one of 40 bits and three.
-- v is what the operation sees, n the instruction, x, y and z the words read. Assumes nothing.
use Rattle.std.specs.Prelude.{ℕ, ◌+◌, ◌/◌, [], ◌∷◌, ℤ}
use Rattle.choice.specs.Select.{select}
use Rattle.twos_complement.specs.Whole.{signed}
use Rattle.word.specs.Pair.{high_word, low_word}
use Rattle.word.specs.Status.{status}
use Rattle.float.specs.declared.Float.{Float}
use Rattle.float.specs.Float.{Result, given, overflows, underflows}
use Rattle.float.specs.Words.{mantissa24, mantissa40, exponent_of, first_word, second_word, third_word}
use Rattle.float_add.specs.Add.{sum_of, difference_of}
use Rattle.float_mul.specs.Multiply.{product_of}
use Rattle.float_div.specs.Divide.{quotient_of}
use Rattle.float_convert.specs.Convert.{negated_of, absolute_of, compared_of, too_large, fixed_of, float_of}
use Rattle.machine.specs.declared.Instruction.{Instruction}
use Rattle.machine.specs.Machine.{Effect}
use Rattle.isa.specs.Fields.{field_a, register}
use Rattle.isa.specs.Addressing.{operand_word, operand, double_operand, accumulator}
use Rattle.isa.specs.Words.{register_pair}
use Rattle.isa.specs.Effects.{Context, fixed_overflow, float_faults, into_registers, tested, nothing}

-- registers from k on get a float, CS the status of its mantissa, and PI its faults
unfoldable pub float24 : Context → Instruction → ℕ → Float → Effect
float24 v n k f =
    into_registers v n k (first_word f.mantissa ∷ second_word f.mantissa f.exponent ∷ []) (status 24 f.mantissa) (float_faults (overflows f.fault) (underflows f.fault))

unfoldable pub float40 : Context → Instruction → ℕ → Float → Effect
float40 v n k f =
    let u = f.mantissa / 65536 in
    into_registers v n k (first_word u ∷ second_word u f.exponent ∷ third_word f.mantissa ∷ []) (status 40 f.mantissa) (float_faults (overflows f.fault) (underflows f.fault))

-- a function of two mantissas and exponents, of the accumulator and of the operand
unfoldable pub both24 : {A : Type 0} → (ℤ → ℕ → ℤ → ℕ → A) → Context → Instruction → ℕ → ℕ → A
both24 f v n x y =
    let p = register v.regs (accumulator n) in
    let q = register v.regs (accumulator n + 1) in
    let x' = operand_word v.regs n 0 x in
    let y' = operand_word v.regs n 1 y in
    f (signed 24 (mantissa24 p q)) (exponent_of q) (signed 24 (mantissa24 x' y')) (exponent_of y')

unfoldable pub both40 : {A : Type 0} → (ℤ → ℕ → ℤ → ℕ → A) → Context → Instruction → ℕ → ℕ → ℕ → A
both40 f v n x y z =
    let a = field_a n.first in
    let p = register v.regs a in
    let q = register v.regs (a + 1) in
    let r = register v.regs (a + 2) in
    let x' = operand_word v.regs n 0 x in
    let y' = operand_word v.regs n 1 y in
    let z' = operand_word v.regs n 2 z in
    f (signed 40 (mantissa40 p q r)) (exponent_of q) (signed 40 (mantissa40 x' y' z')) (exponent_of y')

-- the accumulator gets the result of an operation on it and the operand
unfoldable pub combined24 : (ℤ → ℕ → ℤ → ℕ → Result) → Context → Instruction → ℕ → ℕ → Effect
combined24 f v n x y = float24 v n (accumulator n) (given 24 (both24 f v n x y))

unfoldable pub combined40 : (ℤ → ℕ → ℤ → ℕ → Result) → Context → Instruction → ℕ → ℕ → ℕ → Effect
combined40 f v n x y z = float40 v n (field_a n.first) (given 40 (both40 f v n x y z))

-- RA gets the result of an operation on the float in RB
unfoldable pub changed24 : (ℤ → ℕ → Result) → Context → Instruction → ℕ → ℕ → Effect
changed24 f v n x y =
    let x' = operand_word v.regs n 0 x in
    let y' = operand_word v.regs n 1 y in
    float24 v n (field_a n.first) (given 24 (f (signed 24 (mantissa24 x' y')) (exponent_of y')))

-- FIX (5.85): RA gets the integer, or keeps what it has
unfoldable pub to_integer : Context → Instruction → ℕ → ℕ → Effect
to_integer v n x y =
    let a = field_a n.first in
    let x' = operand_word v.regs n 0 x in
    let y' = operand_word v.regs n 1 y in
    let i = fixed_of 16 24 (signed 24 (mantissa24 x' y')) (exponent_of y') (register v.regs a) in
    into_registers v n a (i ∷ []) (status 16 i) (fixed_overflow (too_large 16 (exponent_of y')))

-- EFIX (5.87)
unfoldable pub to_double_integer : Context → Instruction → ℕ → ℕ → ℕ → Effect
to_double_integer v n x y z =
    let a = field_a n.first in
    let x' = operand_word v.regs n 0 x in
    let y' = operand_word v.regs n 1 y in
    let z' = operand_word v.regs n 2 z in
    let i = fixed_of 32 40 (signed 40 (mantissa40 x' y' z')) (exponent_of y') (register_pair v.regs a) in
    into_registers v n a (high_word i ∷ low_word i ∷ []) (status 32 i) (fixed_overflow (too_large 32 (exponent_of y')))

-- 5.60 to 5.62, 5.68 to 5.70, 5.74, 5.75, 5.79, 5.80, 5.85 to 5.88, 5.94, 5.95: FA EFA FABS, FS EFS FNEG, FM EFM, FD EFD, FIX FLT EFIX EFLT, FC EFC
unfoldable pub float_operation : Context → Instruction → ℕ → ℕ → ℕ → ℕ → Effect
float_operation v n x y z operation =
    select operation
    ((60, combined24 (sum_of 24) v n x y) ∷
    (61, combined40 (sum_of 40) v n x y z) ∷
    (62, changed24 (absolute_of 24) v n x y) ∷
    (68, combined24 (difference_of 24) v n x y) ∷
    (69, combined40 (difference_of 40) v n x y z) ∷
    (70, changed24 (negated_of 24) v n x y) ∷
    (74, combined24 (product_of 24) v n x y) ∷
    (75, combined40 (product_of 40) v n x y z) ∷
    (79, combined24 (quotient_of 24) v n x y) ∷
    (80, combined40 (quotient_of 40) v n x y z) ∷
    (85, to_integer v n x y) ∷
    (86, float24 v n (field_a n.first) (given 24 (float_of 16 24 (signed 16 (operand v.regs n x))))) ∷
    (87, to_double_integer v n x y z) ∷
    (88, float40 v n (field_a n.first) (given 40 (float_of 32 40 (signed 32 (double_operand v.regs n x y))))) ∷
    (94, tested v n (both24 compared_of v n x y)) ∷
    (95, tested v n (both40 compared_of v n x y z)) ∷
    [])
    (nothing v n)
