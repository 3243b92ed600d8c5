-- Bits, shifts, jumps, loads and stores (5.3 to 5.53, without blocks of words): what each does, by its paragraph.
-- v is what the operation sees, n the instruction, x, y and z the words read. Assumes nothing.
use Rattle.std.specs.Prelude.{ℕ, ◌+◌, ◌%◌, cond, List, [], ◌∷◌, eqb}
use Rattle.choice.specs.Select.{select}
use Rattle.twos_complement.specs.Whole.{shift_left, shift_right, shift_arith, rotate}
use Rattle.word.specs.Pair.{pair, high_word, low_word}
use Rattle.word.specs.Status.{status}
use Rattle.bits.specs.Bits.{set_bit, reset_bit, test_bit}
use Rattle.bits.specs.Bytes.{load_upper, load_lower, store_masked, store_upper, store_lower}
use Rattle.word.specs.Condition.{jump_taken, branch_taken}
use Rattle.shift.specs.declared.Shifted.{Shifted}
use Rattle.shift.specs.Shift.{logical_by, arithmetic_by, circular_by}
use Rattle.float.specs.Words.{mantissa40}
use Rattle.page.specs.Spans.{wrapped}
use Rattle.machine.specs.declared.Instruction.{Instruction}
use Rattle.machine.specs.State.{cs_of}
use Rattle.machine.specs.Machine.{Effect, next_of}
use Rattle.isa.specs.Fields.{field_a, field_b, register}
use Rattle.isa.specs.Addressing.{operand, double_operand, accumulator}
use Rattle.isa.specs.Effects.{Context, fixed_overflow, three, effect, into_registers, single, double, loaded, tested, modified, stored, replaced, jumped, nothing}

-- the double word of register k and the next
unfoldable pub register_pair : List ℕ → ℕ → ℕ
register_pair regs k = pair (register regs k) (register regs (k + 1))

-- 5.3 to 5.9: SB RB TB TSB SVBR RVBR TVBR
unfoldable pub bit_operation : Context → Instruction → ℕ → ℕ → Effect
bit_operation v n x operation =
    let a = field_a n.first in
    let b = field_b n.first in
    let o = operand v.regs n x in
    let k = register v.regs a % 16 in
    let rb = register v.regs b in
    select operation
    ((3, replaced v n (set_bit o a)) ∷
    (4, replaced v n (reset_bit o a)) ∷
    (5, tested v n (test_bit o a)) ∷
    (6, modified v n (set_bit o a) (test_bit o a) 0) ∷
    (7, loaded v n b (set_bit rb k)) ∷
    (8, loaded v n b (reset_bit rb k)) ∷
    (9, tested v n (test_bit rb k)) ∷
    [])
    (nothing v n)

-- RA, or RA and RA + 1, after a shift by a count in a register
unfoldable pub shifted_single : Context → Instruction → Shifted ℕ → Effect
shifted_single v n s = into_registers v n (field_a n.first) (s.value ∷ []) (status 16 s.value) (fixed_overflow s.overflow)

unfoldable pub shifted_double : Context → Instruction → Shifted ℕ → Effect
shifted_double v n s =
    into_registers v n (field_a n.first) (high_word s.value ∷ low_word s.value ∷ []) (status 32 s.value) (fixed_overflow s.overflow)

-- 5.10 to 5.23: SLL SRL SRA SLC, DSLL DSRL DSRA DSLC, SLR SAR SCR, DSLR DSAR DSCR
unfoldable pub shift_operation : Context → Instruction → ℕ → Effect
shift_operation v n operation =
    let a = field_a n.first in
    let b = field_b n.first in
    let ra = register v.regs a in
    let rb = register v.regs b in
    let pa = register_pair v.regs a in
    let pb = register_pair v.regs b in
    select operation
    ((10, single v n b (shift_left 16 (a + 1) rb)) ∷
    (11, single v n b (shift_right 16 (a + 1) rb)) ∷
    (12, single v n b (shift_arith 16 (a + 1) rb)) ∷
    (13, single v n b (rotate 16 (a + 1) rb)) ∷
    (14, double v n b (shift_left 32 (a + 1) pb)) ∷
    (15, double v n b (shift_right 32 (a + 1) pb)) ∷
    (16, double v n b (shift_arith 32 (a + 1) pb)) ∷
    (17, double v n b (rotate 32 (a + 1) pb)) ∷
    (18, shifted_single v n (logical_by 16 ra rb)) ∷
    (19, shifted_single v n (arithmetic_by 16 ra rb)) ∷
    (20, shifted_single v n (circular_by 16 ra rb)) ∷
    (21, shifted_double v n (logical_by 32 pa rb)) ∷
    (22, shifted_double v n (arithmetic_by 32 pa rb)) ∷
    (23, shifted_double v n (circular_by 32 pa rb)) ∷
    [])
    (nothing v n)

-- RA gets a word, x is stored, on to the address a
unfoldable pub called : Context → Instruction → ℕ → ℕ → ℕ → Effect
called v n ra x a = effect v (field_a n.first) (ra ∷ []) a (cs_of v.sw) 0 (three x 0 0)

-- 5.26: RA less one; on to the derived address unless that is zero
unfoldable pub subtracted_and_jumped : Context → Instruction → ℕ → Effect
subtracted_and_jumped v n ra = effect v (field_a n.first) (ra ∷ []) (cond (eqb ra 0) (next_of n) n.address) (status 16 ra) 0 (three 0 0 0)

-- 5.24 to 5.37, without BEX and LST: JC JS SOJ, BR BEZ BLT BLE BGT BNZ BGE, SJS URS
unfoldable pub jump_operation : Context → Instruction → ℕ → ℕ → Effect
jump_operation v n x operation =
    let ra = register v.regs (field_a n.first) in
    select operation
    ((24, jumped v n (jump_taken (field_a n.first) (cs_of v.sw))) ∷
    (25, called v n (next_of n) 0 n.address) ∷
    (26, subtracted_and_jumped v n (wrapped (ra + 65535))) ∷
    (36, called v n (wrapped (ra + 65535)) (next_of n) n.address) ∷
    (37, called v n (wrapped (ra + 1)) 0 x) ∷
    [])
    (jumped v n (branch_taken operation (cs_of v.sw)))

-- 5.38, 5.39, 5.41 to 5.43: L DL EFL LUB LLB
unfoldable pub load_operation : Context → Instruction → ℕ → ℕ → ℕ → ℕ → Effect
load_operation v n x y z operation =
    let a = field_a n.first in
    let ra = register v.regs a in
    let o = operand v.regs n x in
    select operation
    ((38, single v n (accumulator n) o) ∷
    (39, double v n (accumulator n) (double_operand v.regs n x y)) ∷
    (41, into_registers v n a (x ∷ y ∷ z ∷ []) (status 40 (mantissa40 x y z)) 0) ∷
    (42, single v n a (load_upper ra o)) ∷
    (43, single v n a (load_lower ra o)) ∷
    [])
    (nothing v n)

-- 5.45, 5.46, 5.48, 5.49, 5.51 to 5.53: ST STC DST SRM EFST STUB STLB
unfoldable pub store_operation : Context → Instruction → ℕ → ℕ → Effect
store_operation v n x operation =
    let a = field_a n.first in
    let acc = accumulator n in
    let reg = register v.regs in
    select operation
    ((45, stored v n (reg acc) 0 0) ∷
    (46, stored v n a 0 0) ∷
    (48, stored v n (reg acc) (reg (acc + 1)) 0) ∷
    (49, stored v n (store_masked x (reg a) (reg (a + 1))) 0 0) ∷
    (51, stored v n (reg a) (reg (a + 1)) (reg (a + 2))) ∷
    (52, stored v n (store_upper x (reg a)) 0 0) ∷
    (53, stored v n (store_lower x (reg a)) 0 0) ∷
    [])
    (nothing v n)
