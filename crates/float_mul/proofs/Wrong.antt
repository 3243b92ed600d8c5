-- Two wrong answers of each contract that other crates call, beside the right one, which the checker computes. Assumes nothing.
use mathlib.Core.List.{List, [], ◌∷◌}
use lib.Dec.{T}
use Rattle.choice.proofs.Rows.{Row, some, hold}
use Rattle.twos_complement.specs.Whole.{signed, wrap, with_sign, floor_div}
use Rattle.twos_complement.specs.Normal.{normal}
use Rattle.float.specs.Float.{is_zero, overflowed, float_zero, given}
use Rattle.float.proofs.Wrong.{parts}
use Rattle.float_exact.specs.Exact.{mantissa_at, highest, truncated, signs_differ, overflow_of}
use Rattle.float_mul.specs.Multiply.{product_of}

pub rows : List Row
rows =
    -- multiply: -1.0 times -1.0 as -1.0; as the largest mantissa
    some (parts (given 24 (product_of 24 (signed 24 0x80_0000) 128 (signed 24 0x80_0000) 128)))
    (0x40_0000 ∷ 129 ∷ 0 ∷ 0 ∷ []) (0x80_0000 ∷ 128 ∷ 0 ∷ 0 ∷ []) (0x7F_FFFF ∷ 128 ∷ 0 ∷ 0 ∷ [])
    ∷ []

pub rows-hold : T (hold rows)
unfolding rows signed wrap with_sign floor_div normal is_zero overflowed float_zero given mantissa_at highest truncated signs_differ overflow_of product_of
rows-hold = tt
