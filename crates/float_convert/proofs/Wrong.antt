-- Two wrong answers of each contract that other crates call, beside the right one, which the checker computes. Assumes nothing.
use mathlib.Core.List.{List, [], ◌∷◌}
use lib.Dec.{T}
use Rattle.choice.proofs.Rows.{Row, one, some, hold, flag}
use Rattle.twos_complement.specs.Whole.{signed, wrap}
use Rattle.twos_complement.specs.Normal.{normal, moves, distance}
use Rattle.float.specs.Float.{is_zero, overflowed, float_zero, normalised, given}
use Rattle.float.proofs.Wrong.{parts}
use Rattle.float_convert.specs.Convert.{kept, minus_one, one_half, same, negated_of, absolute_of}
use Rattle.float_convert.specs.Convert.{compared, compared_of, too_large, integer_part, fixed_of, float_of}

pub rows : List Row
rows =
    -- compare::compare: equal, without the bit lost by the alignment; below, by the exponents
    one (compared_of (signed 24 0x40_0001) 128 (signed 24 0x20_0000) 129) 4 2 1
    -- convert::fix: -1.5 truncated toward minus infinity; what the register held before
    ∷ some (fixed_of 16 24 (signed 24 0xA0_0000) 129 0x1234 ∷ flag (too_large 16 129) ∷ []) (0xFFFF ∷ 0 ∷ []) (0xFFFE ∷ 0 ∷ []) (0x1234 ∷ 0 ∷ [])
    -- convert::fix: 2^31 without overflow; the register cleared
    ∷ some (fixed_of 32 40 (signed 40 0x40_0000_0000) 160 0x1234_5678 ∷ flag (too_large 32 160) ∷ []) (0x1234_5678 ∷ 1 ∷ []) (0x8000_0000 ∷ 0 ∷ []) (0 ∷ 1 ∷ [])
    -- convert::from_integer: not normalised; twice as large
    ∷ some (parts (given 24 (float_of 16 24 (signed 16 1)))) (0x40_0000 ∷ 129 ∷ 0 ∷ 0 ∷ []) (0x00_0100 ∷ 143 ∷ 0 ∷ 0 ∷ []) (0x40_0000 ∷ 130 ∷ 0 ∷ 0 ∷ [])
    -- convert::from_integer: -1 as -0.5 times 2; without a sign
    ∷ some (parts (given 40 (float_of 32 40 (signed 32 0xFFFF_FFFF))))
    (0x80_0000_0000 ∷ 128 ∷ 0 ∷ 0 ∷ []) (0xC0_0000_0000 ∷ 129 ∷ 0 ∷ 0 ∷ []) (0x7F_FFFF_FF80 ∷ 160 ∷ 0 ∷ 0 ∷ [])
    -- sign::negate: 0.5 as -0.5, not normalised; the exponent kept
    ∷ some (parts (given 24 (negated_of 24 (signed 24 0x40_0000) 128)))
    (0x80_0000 ∷ 127 ∷ 0 ∷ 0 ∷ []) (0xC0_0000 ∷ 128 ∷ 0 ∷ 0 ∷ []) (0x80_0000 ∷ 128 ∷ 0 ∷ 0 ∷ [])
    -- sign::absolute: -1.0 with the exponent 7F as 0.5 with 80; kept
    ∷ some (parts (given 24 (absolute_of 24 (signed 24 0x80_0000) 255)))
    (0x7F_FFFF ∷ 255 ∷ 1 ∷ 0 ∷ []) (0x40_0000 ∷ 256 ∷ 0 ∷ 0 ∷ []) (0x80_0000 ∷ 255 ∷ 0 ∷ 0 ∷ [])
    ∷ []

pub rows-hold : T (hold rows)
unfolding rows signed wrap normal moves distance is_zero overflowed float_zero normalised given kept minus_one one_half same negated_of absolute_of
    compared compared_of too_large integer_part fixed_of float_of
rows-hold = tt
