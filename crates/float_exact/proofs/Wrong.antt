-- Two wrong answers of each contract that other crates call, beside the right one, which the checker computes. Assumes nothing.
use Rattle.std.specs.Prelude.{None}
use Prim.Native.Nat.{◌+◌, ◌-◌, ◌*◌, ◌/◌, ◌^◌}
use mathlib.Core.Bool.{true, false}
use mathlib.Core.List.{List, [], ◌∷◌}
use lib.Count.{count_leading_zeros}
use lib.Dec.{T}
use lib.IntN.{nat_abs}
use Rattle.choice.proofs.Rows.{Row, one, some, hold, flag}
use Rattle.twos_complement.specs.Whole.{signed, wrap, with_sign}
use Rattle.float.specs.Float.{overflowed, float_zero, given}
use Rattle.float.proofs.Wrong.{parts}
use Rattle.float_exact.specs.Exact.{signs_differ}
use Rattle.float_exact.specs.Steps.{one_if, signed_by, tail, ranged, upper}

pub rows : List Row
rows =
    -- signs_differ: the sign of the first mantissa; true where the signs are equal
    some
    (flag (signs_differ (signed 40 0x80_0000_0000) (signed 40 0x40_0000_0000))
    ∷ flag (signs_differ (signed 40 0x80_0000_0000) (signed 40 0x80_0000_0000)) ∷ [])
    (1 ∷ 0 ∷ []) (1 ∷ 1 ∷ []) (0 ∷ 1 ∷ [])
    -- magnitude: the complement; the bits of a negative mantissa
    ∷ one (nat_abs (signed 40 0xFF_FFFF_FFFE)) 2 1 0xFF_FFFF_FFFE
    -- one_if: 0 for true; 1 for both
    ∷ some (one_if true ∷ one_if false ∷ []) (1 ∷ 0 ∷ []) (0 ∷ 1 ∷ []) (1 ∷ 1 ∷ [])
    -- largest: the largest positive number; its negation
    ∷ some (parts (given 40 (overflowed 40 (with_sign true 1))))
    (0x80_0000_0000 ∷ 255 ∷ 1 ∷ 0 ∷ []) (0x7F_FFFF_FFFF ∷ 255 ∷ 1 ∷ 0 ∷ []) (0x80_0000_0001 ∷ 255 ∷ 1 ∷ 0 ∷ [])
    -- finish: negated instead of complemented; the exponent not raised by the number of bits truncated
    ∷ some (parts (given 40 (ranged 40 (signed_by true (0x80_0000_0001 / 2 ^ tail 40 0x80_0000_0001)) (300 + tail 40 0x80_0000_0001) 171)))
    (0xBF_FFFF_FFFF ∷ 130 ∷ 0 ∷ 0 ∷ []) (0xC0_0000_0000 ∷ 130 ∷ 0 ∷ 0 ∷ []) (0xBF_FFFF_FFFF ∷ 129 ∷ 0 ∷ 0 ∷ [])
    -- wider: not moved; moved by its own width
    ∷ one (0x40_0012 * 2 ^ (40 - 24)) 0x40_0012_0000 0x40_0012 0x4000_1200_0000
    -- upper: the last 24 bits; the first 16 bits
    ∷ some (parts (upper (40 - 24) (record { mantissa = 0x40_0012_5678; exponent = 130; fault = None }))) (0x40_0012 ∷ 130 ∷ 0 ∷ 0 ∷ []) (0x12_5678 ∷ 130 ∷ 0 ∷ 0 ∷ []) (0x4000 ∷ 130 ∷ 0 ∷ 0 ∷ [])
    ∷ []

pub rows-hold : T (hold rows)
unfolding rows count_leading_zeros signed wrap with_sign overflowed float_zero given signs_differ signed_by tail ranged upper
rows-hold = tt
