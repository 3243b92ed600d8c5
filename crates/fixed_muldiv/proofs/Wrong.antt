-- Two wrong answers of each contract that other crates call, beside the right one, which the checker computes. Assumes nothing.
use Prim.Native.Nat.{ℕ}
use mathlib.Core.List.{List, [], ◌∷◌}
use lib.Dec.{T}
use Rattle.choice.proofs.Rows.{Row, some, hold, flag}
use Rattle.twos_complement.specs.Whole.{signed, wrap, holds}
use Rattle.word.specs.Status.{status, with_carry}
use Rattle.fixed_add.specs.Fixed.{outcome_of}
use Rattle.fixed_add.proofs.Wrong.{parts as outcome_parts}
use Rattle.fixed_muldiv.specs.declared.Quotient.{Quotient}
use Rattle.fixed_muldiv.specs.Divide.{product, long_product, division, divided, long_divided, quotient}

-- the quotient, the remainder, the condition status, and overflow
abbrev parts : Quotient ℕ → List ℕ
parts x = x.quotient ∷ x.remainder ∷ x.cs ∷ flag x.overflow ∷ []

pub rows : List Row
rows =
    -- products::multiply: at 16 bits, the upper half of the product; no overflow
    some (outcome_parts (product 16 0x0100 0x0100)) (0 ∷ 2 ∷ 1 ∷ []) (1 ∷ 4 ∷ 1 ∷ []) (0 ∷ 2 ∷ 0 ∷ [])
    -- products::multiply_long: operands without a sign; the product of the magnitudes
    ∷ some (outcome_parts (long_product 16 0xFFFF 2)) (0xFFFF_FFFE ∷ 1 ∷ 0 ∷ []) (0x0001_FFFE ∷ 4 ∷ 0 ∷ []) (2 ∷ 4 ∷ 0 ∷ [])
    -- products::multiply: at 32 bits, the upper half of the product; no overflow
    ∷ some (outcome_parts (product 32 0x0001_0000 0x0000_8000)) (0x8000_0000 ∷ 1 ∷ 1 ∷ []) (0 ∷ 2 ∷ 1 ∷ []) (0x8000_0000 ∷ 1 ∷ 0 ∷ [])
    -- quotients::divide: -7 by 2 truncated toward minus infinity; the remainder above zero
    ∷ some (parts (divided 16 0xFFF9 2)) (0xFFFD ∷ 0xFFFF ∷ 1 ∷ 0 ∷ []) (0xFFFC ∷ 1 ∷ 1 ∷ 0 ∷ []) (0xFFFD ∷ 1 ∷ 1 ∷ 0 ∷ [])
    -- quotients::divide_long: overflow where 16 bits do not hold the quotient; quotient and remainder exchanged
    ∷ some (parts (long_divided 16 0x0001_0003 2)) (0x8001 ∷ 1 ∷ 1 ∷ 0 ∷ []) (0x8001 ∷ 1 ∷ 1 ∷ 1 ∷ []) (1 ∷ 0x8001 ∷ 4 ∷ 0 ∷ [])
    -- quotients::quotient: no overflow; the largest number instead
    ∷ some (outcome_parts (quotient 32 0x8000_0000 0xFFFF_FFFF)) (0x8000_0000 ∷ 1 ∷ 1 ∷ []) (0x8000_0000 ∷ 1 ∷ 0 ∷ []) (0x7FFF_FFFF ∷ 4 ∷ 1 ∷ [])
    ∷ []

pub rows-hold : T (hold rows)
unfolding rows signed wrap holds status with_carry outcome_of product long_product division divided long_divided quotient
rows-hold = tt
