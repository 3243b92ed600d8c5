-- Integer arithmetic, logic and comparison (5.55 to 5.93 without the floats): what each does, by its paragraph.
-- v is what the operation sees, n the instruction, x and y the words read. Assumes nothing.
use Rattle.std.specs.Prelude.{ℕ, ◌+◌, ◌-◌, [], ◌∷◌}
use Rattle.std.specs.Int.Bits.{bit_and, bit_or, bit_xor}
use Rattle.choice.specs.Select.{select}
use Rattle.word.specs.Pair.{high_word, low_word}
use Rattle.bits.specs.Bytes.{exchange}
use Rattle.word.specs.Compare.{compared, limited}
use Rattle.fixed_muldiv.specs.declared.Quotient.{Quotient}
use Rattle.fixed_add.specs.declared.Outcome.{Outcome}
use Rattle.fixed_add.specs.Fixed.{sum, difference, negated, absolute}
use Rattle.fixed_muldiv.specs.Divide.{product, long_product, divided, long_divided, quotient}
use Rattle.machine.specs.declared.Instruction.{Instruction}
use Rattle.machine.specs.Machine.{Effect}
use Rattle.isa.specs.Fields.{field_a, register}
use Rattle.isa.specs.Addressing.{operand, double_operand, accumulator}
use Rattle.isa.specs.Words.{register_pair}
use Rattle.isa.specs.Effects.{Context, fixed_overflow, into_registers, single, tested, modified, nothing}

-- register k gets an outcome of 16 bits
unfoldable pub single_outcome : Context → Instruction → ℕ → Outcome ℕ → Effect
single_outcome v n k o = into_registers v n k (o.value ∷ []) o.cs (fixed_overflow o.overflow)

-- registers k and k + 1 get one of 32 bits
unfoldable pub double_outcome : Context → Instruction → ℕ → Outcome ℕ → Effect
double_outcome v n k o = into_registers v n k (high_word o.value ∷ low_word o.value ∷ []) o.cs (fixed_overflow o.overflow)

-- the memory word gets one of 16 bits
unfoldable pub memory_outcome : Context → Instruction → Outcome ℕ → Effect
memory_outcome v n o = modified v n o.value o.cs (fixed_overflow o.overflow)

-- registers k and k + 1 get a quotient and its remainder
unfoldable pub quotient_outcome : Context → Instruction → ℕ → Quotient ℕ → Effect
quotient_outcome v n k q = into_registers v n k (q.quotient ∷ q.remainder ∷ []) q.cs (fixed_overflow q.overflow)

-- 5.55 to 5.59, 5.63 to 5.67, 5.71 to 5.73, 5.76 to 5.78: A INCM ABS DABS DA, S DECM NEG DNEG DS, MS M DM, DV D DD
unfoldable pub integer_operation : Context → Instruction → ℕ → ℕ → ℕ → Effect
integer_operation v n x y operation =
    let a = field_a n.first in
    let acc = accumulator n in
    let ra = register v.regs a in
    let rc = register v.regs acc in
    let pa = register_pair v.regs a in
    let o = operand v.regs n x in
    let oo = double_operand v.regs n x y in
    select operation
    ((55, single_outcome v n acc (sum 16 rc o)) ∷
    (56, memory_outcome v n (sum 16 x (a + 1))) ∷
    (57, single_outcome v n a (absolute 16 o)) ∷
    (58, double_outcome v n a (absolute 32 oo)) ∷
    (59, double_outcome v n a (sum 32 pa oo)) ∷
    (63, single_outcome v n acc (difference 16 rc o)) ∷
    (64, memory_outcome v n (difference 16 x (a + 1))) ∷
    (65, single_outcome v n a (negated 16 o)) ∷
    (66, double_outcome v n a (negated 32 oo)) ∷
    (67, double_outcome v n a (difference 32 pa oo)) ∷
    (71, single_outcome v n a (product 16 ra o)) ∷
    (72, double_outcome v n acc (long_product 16 rc o)) ∷
    (73, double_outcome v n a (product 32 pa oo)) ∷
    (76, quotient_outcome v n a (divided 16 ra o)) ∷
    (77, quotient_outcome v n acc (long_divided 16 (register_pair v.regs acc) o)) ∷
    (78, double_outcome v n a (quotient 32 pa oo)) ∷
    [])
    (nothing v n)

-- 5.81 to 5.84, 5.89, 5.91 to 5.93: OR AND XOR N, XBR, C CBL DC
unfoldable pub logical_operation : Context → Instruction → ℕ → ℕ → ℕ → Effect
logical_operation v n x y operation =
    let a = field_a n.first in
    let acc = accumulator n in
    let ra = register v.regs a in
    let rc = register v.regs acc in
    let o = operand v.regs n x in
    select operation
    ((81, single v n acc (bit_or rc o)) ∷
    (82, single v n acc (bit_and rc o)) ∷
    (83, single v n a (bit_xor ra o)) ∷
    (84, single v n a (65535 - bit_and ra o)) ∷
    (89, single v n a (exchange ra)) ∷
    (91, tested v n (compared 16 rc o)) ∷
    (92, tested v n (limited 16 ra x y)) ∷
    (93, tested v n (compared 32 (register_pair v.regs a) (double_operand v.regs n x y))) ∷
    [])
    (nothing v n)
