-- Two wrong answers of each contract that other crates call, beside the right one, which the checker computes. Assumes nothing.
use Prim.Native.Nat.{ℕ, ◌-◌, ◌%◌, ◌^◌}
use Rattle.std.specs.Prelude.{Some, None}
use mathlib.Core.Bool.{not}
use mathlib.Core.List.{List, [], ◌∷◌}
use lib.Dec.{T, eqb}
use lib.IntN.{ℤ, nat_abs, sub_ℕ}
use lib.Signed.{non_neg, shr_z}
use Rattle.choice.proofs.Rows.{Row, one, some, hold, flag}
use Rattle.twos_complement.specs.Whole.{signed, wrap}
use Rattle.twos_complement.specs.Normal.{normal, moves, distance}
use Rattle.word.specs.Status.{status}
use Rattle.float.specs.declared.Float.{Float}
use Rattle.float.specs.declared.FloatFault.TheVariants.{Overflow, Underflow}
use Rattle.float.specs.Float.{is_zero, float_zero, normalised, given, overflows, underflows}
use Rattle.float.specs.Words.{mantissa24, mantissa40, exponent_of, first_word, second_word, third_word}

-- the mantissa, the exponent, overflow and underflow
abbrev pub parts : Float → List ℕ
parts f = f.mantissa ∷ f.exponent ∷ flag (overflows f.fault) ∷ flag (underflows f.fault) ∷ []

-- a whole number: whether it is not below zero, and its magnitude
abbrev whole : ℤ → List ℕ
whole z = flag (non_neg z) ∷ nat_abs z ∷ []

-- the number that 24 bits in excess form stand for
abbrev excess : ℕ → List ℕ
excess x = whole (sub_ℕ x (2 ^ (24 - 1)))

pub rows : List Row
rows =
    -- zero: the exponent 80 instead of 0; no underflow
    some (parts (record { mantissa = 0; exponent = 128; fault = Some Underflow })) (0 ∷ 128 ∷ 0 ∷ 1 ∷ []) (0 ∷ 0 ∷ 0 ∷ 1 ∷ []) (0 ∷ 128 ∷ 0 ∷ 0 ∷ [])
    -- extreme: the exponent -1 instead of 7F; underflow
    ∷ some (parts (record { mantissa = 0x7F_FFFF; exponent = 255; fault = Some Overflow })) (0x7F_FFFF ∷ 255 ∷ 1 ∷ 0 ∷ []) (0x7F_FFFF ∷ 127 ∷ 1 ∷ 0 ∷ []) (0x7F_FFFF ∷ 255 ∷ 0 ∷ 1 ∷ [])
    -- plain: overflow; the exponent without the 128
    ∷ some (parts (record { mantissa = 0x40_0000; exponent = 129; fault = None })) (0x40_0000 ∷ 129 ∷ 0 ∷ 0 ∷ []) (0x40_0000 ∷ 129 ∷ 1 ∷ 0 ∷ []) (0x40_0000 ∷ 1 ∷ 0 ∷ 0 ∷ [])
    -- gap: the exponents exchanged; the distance both ways
    ∷ some ((130 - 128) ∷ (128 - 130) ∷ []) (2 ∷ 0 ∷ []) (0 ∷ 2 ∷ []) (2 ∷ 2 ∷ [])
    -- mantissa::half: the weight of the bit after the sign; twice the weight of the sign
    ∷ one (2 ^ (24 - 1)) 0x80_0000 0x40_0000 0x100_0000
    -- mantissa::low: the upper bits; one bit less
    ∷ one (0xAB_CDEF % 2 ^ 8) 0xEF 0xAB 0x6F
    -- mantissa::status: negative, by the sign of 24 bits; zero, by the first word alone
    ∷ one (status 40 0x00_0080_0000) 4 1 2
    -- mantissa::normalise: underflow at the lowest exponent; moved by one place too few
    ∷ some (parts (given 24 (normalised 24 (signed 24 0x00_0100) 14))) (0x40_0000 ∷ 0 ∷ 0 ∷ 0 ∷ []) (0 ∷ 128 ∷ 0 ∷ 1 ∷ []) (0x20_0000 ∷ 1 ∷ 0 ∷ 0 ∷ [])
    -- mantissa::shift: 0 instead of -1, by 24 places; the bits of -1, not in excess form
    ∷ some (whole (shr_z (signed 24 0x80_0000) (2 ^ 24))) (excess 0x7F_FFFF) (excess 0x80_0000) (excess 0xFF_FFFF)
    -- mantissa::loses: any bit of the mantissa, lost or not; none beyond the width
    ∷ some (flag (not (eqb (wrap 4 (signed 24 0x80_0010)) 0)) ∷ flag (not (eqb (wrap 30 (signed 24 0x00_0001)) 0)) ∷ []) (0 ∷ 1 ∷ []) (1 ∷ 1 ∷ []) (0 ∷ 0 ∷ [])
    -- mantissa::bits: the sign bit not changed; the complement
    ∷ some (excess 0x40_0000) (whole (signed 24 0xC0_0000)) (whole (signed 24 0x40_0000)) (whole (signed 24 0x3F_FFFF))
    -- packing::mantissa24: the byte of the exponent; the two words as one number
    ∷ one (mantissa24 0x4000 0x12FF) 0x40_0012 0x40_00FF 0x4000_12FF
    -- packing::mantissa40: the second word twice; the third word before the byte of the second
    ∷ one (mantissa40 0x4000 0x12FF 0x5678) 0x40_0012_5678 0x40_0012_12FF 0x40_0056_7812
    -- packing::exponent: without the 128; the byte of the mantissa
    ∷ one (exponent_of 0x12FF) 127 255 146
    -- packing::first_word: the last 16 bits; the first byte
    ∷ one (first_word 0x40_0012) 0x4000 0x0012 0x0040
    -- packing::second_word: the bytes exchanged; the exponent with the 128
    ∷ one (second_word 0x40_0012 127) 0x12FF 0xFF12 0x127F
    -- packing::third_word: the first word; the bits before the last byte
    ∷ one (third_word 0x40_0012_5678) 0x5678 0x4000 0x1256
    ∷ []

pub rows-hold : T (hold rows)
unfolding rows signed wrap normal moves distance status is_zero float_zero normalised given mantissa24 mantissa40 exponent_of first_word second_word third_word
rows-hold = tt
