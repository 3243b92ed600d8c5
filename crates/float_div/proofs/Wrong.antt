-- Two wrong answers of each contract that other crates call, beside the right one, which the checker computes. Assumes nothing.
use mathlib.Core.List.{List, [], ◌∷◌}
use lib.Dec.{T}
use Rattle.choice.proofs.Rows.{Row, some, hold}
use Rattle.twos_complement.specs.Whole.{signed, wrap, with_sign, floor_div}
use Rattle.twos_complement.specs.Normal.{normal}
use Rattle.float.specs.Float.{is_zero, overflowed, float_zero, given}
use Rattle.float.proofs.Wrong.{parts}
use Rattle.float_exact.specs.Exact.{mantissa_at, highest, truncated, signs_differ, overflow_of}
use Rattle.float_div.specs.Divide.{quotient_of}

pub rows : List Row
rows =
    -- divide: -0.5 by 0.75 truncated toward zero; 0.75 by -0.5
    some (parts (given 24 (quotient_of 24 (signed 24 0xC0_0000) 128 (signed 24 0x60_0000) 128)))
    (0xAA_AAAA ∷ 128 ∷ 0 ∷ 0 ∷ []) (0xAA_AAAB ∷ 128 ∷ 0 ∷ 0 ∷ []) (0xA0_0000 ∷ 129 ∷ 0 ∷ 0 ∷ [])
    ∷ []

pub rows-hold : T (hold rows)
unfolding rows signed wrap with_sign floor_div normal is_zero overflowed float_zero given mantissa_at highest truncated signs_differ overflow_of quotient_of
rows-hold = tt
