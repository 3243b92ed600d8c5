-- Two wrong answers of each contract that other crates call, beside the right one, which the checker computes. Assumes nothing.
use Prim.Native.Nat.{ℕ}
use mathlib.Core.List.{List, [], ◌∷◌}
use lib.Dec.{T}
use Rattle.choice.proofs.Rows.{Row, one, some, hold, flag}
use Rattle.twos_complement.specs.Whole.{signed, wrap, holds, shift_left, shift_right, shift_arith, rotate, sign_changes}
use Rattle.shift.specs.declared.Shifted.{Shifted}
use Rattle.shift.specs.Shift.{count_of, moved, shifted_by, logical_by, arithmetic_by, circular_by}

-- the value, and overflow
abbrev parts : Shifted ℕ → List ℕ
parts x = x.value ∷ flag x.overflow ∷ []

pub rows : List Row
rows =
    -- counted::logical: at 16 bits, by -1, to the left; copies of the sign entering
    some (parts (logical_by 16 0x8001 0xFFFF)) (0x4000 ∷ 0 ∷ []) (0x0002 ∷ 0 ∷ []) (0xC000 ∷ 0 ∷ [])
    -- counted::arithmetic: at 16 bits, no overflow, by the last sign alone; the word as it was
    ∷ some (parts (arithmetic_by 16 0x5000 2)) (0x4000 ∷ 1 ∷ []) (0x4000 ∷ 0 ∷ []) (0x5000 ∷ 1 ∷ [])
    -- counted::circular: at 16 bits, by -16, all bits lost; -16 as too large a count
    ∷ some (parts (circular_by 16 0x8001 0xFFF0)) (0x8001 ∷ 0 ∷ []) (0 ∷ 0 ∷ []) (0x8001 ∷ 1 ∷ [])
    -- counted::logical: at 32 bits, each half by itself; to the right
    ∷ some (parts (logical_by 32 0x0001_8000 1)) (0x0003_0000 ∷ 0 ∷ []) (0x0002_0000 ∷ 0 ∷ []) (0x0000_C000 ∷ 0 ∷ [])
    -- counted::arithmetic: at 32 bits, by -16, zeros entering; to the left
    ∷ some (parts (arithmetic_by 32 0xFFFF_0000 0xFFF0)) (0xFFFF_FFFF ∷ 0 ∷ []) (0x0000_FFFF ∷ 0 ∷ []) (0 ∷ 1 ∷ [])
    -- counted::circular: at 32 bits, by 33, as by 1; no overflow
    ∷ some (parts (circular_by 32 0x1234_5678 33)) (0x1234_5678 ∷ 1 ∷ []) (0x2468_ACF0 ∷ 0 ∷ []) (0x1234_5678 ∷ 0 ∷ [])
    -- places::left: at 16 bits, in a circle; to the right
    ∷ one (shift_left 16 4 0x1234) 0x2340 0x2341 0x0123
    -- places::right: at 16 bits, copies of the sign entering; in a circle
    ∷ one (shift_right 16 4 0x8234) 0x0823 0xF823 0x4823
    -- places::arith: at 16 bits, by 16, zeros entering; by 16, as by 0
    ∷ one (shift_arith 16 16 0x8000) 0xFFFF 0 0x8000
    -- places::cyclic: at 16 bits, to the right; zeros entering
    ∷ one (rotate 16 4 0x1234) 0x2341 0x4123 0x2340
    -- places::left: at 32 bits, in a circle; to the right
    ∷ one (shift_left 32 16 0x1234_ABCD) 0xABCD_0000 0xABCD_1234 0x0000_1234
    -- places::right: at 32 bits, by 32, as by 0; copies of the sign entering
    ∷ one (shift_right 32 32 0x8000_0000) 0 0x8000_0000 0xFFFF_FFFF
    -- places::arith: at 32 bits, zeros entering; to the left
    ∷ one (shift_arith 32 4 0x8000_0010) 0xF800_0001 0x0800_0001 0x0000_0100
    -- places::cyclic: at 32 bits, to the right; zeros entering
    ∷ one (rotate 32 8 0x1234_5678) 0x3456_7812 0x7812_3456 0x3456_7800
    ∷ []

pub rows-hold : T (hold rows)
unfolding rows signed wrap holds shift_left shift_right shift_arith rotate sign_changes count_of moved shifted_by
rows-hold = tt
