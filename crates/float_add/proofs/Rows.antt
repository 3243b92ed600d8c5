-- Known sums and differences, as rows of one table that the checker computes from the definitions. Assumes nothing.
use mathlib.Core.Bool.{Bool}
use mathlib.Core.List.{List, [], ◌∷◌}
use Prim.Native.Nat.{ℕ}
use lib.Dec.{T}
use lib.IntN.{ℤ}
use Rattle.choice.proofs.Rows.{all_of}
use Rattle.twos_complement.specs.Whole.{signed, wrap, holds}
use Rattle.twos_complement.specs.Normal.{normal, moves, distance}
use Rattle.float.specs.Float.{Result, is_zero, overflowed, float_zero, normalised}
use Rattle.float.specs.Words.{mantissa24, mantissa40, exponent_of, first_word, second_word, third_word}
use Rattle.float.proofs.Written.{mantissa_in, exponent_in, written, pending_of, gives}
use Rattle.float_add.specs.Add.{common, aligned, finished, fitted, sum_of, difference_of}

abbrev Operation : Type 0
Operation = ℕ → ℤ → ℕ → ℤ → ℕ → Result

-- an operation and a width; accumulator, operand and result as their words, one after another; the pending interrupt
pub data Row : Type 0 where
  row : Operation → ℕ → ℕ → ℕ → ℕ → ℕ → Row

unfoldable pub right : Row → Bool
unfolding signed wrap holds normal moves distance is_zero overflowed float_zero normalised mantissa24 mantissa40 exponent_of first_word second_word third_word mantissa_in exponent_in written pending_of gives common aligned finished fitted sum_of difference_of
right (row f w a b r p) = gives w (f w (mantissa_in w a) (exponent_in w a) (mantissa_in w b) (exponent_in w b)) r p

pub rows : List Row
rows =
    -- the two marked cases of B902; in the second a zero accumulator takes the operand's exponent
    row difference_of 24 0x4000_0001 0x7fff_ff00 0x4000_00eb 0 ∷ row difference_of 24 0 0x4000_00ff 0x8000_00fe 0
    -- zero mantissas with a larger exponent: on either side, and on both
    ∷ row sum_of 24 0x0000_007f 0x4000_0000 0x4000_0000 0 ∷ row sum_of 24 0x4000_0000 0x0000_007f 0x4000_0000 0 ∷ row sum_of 24 0x0000_007f 0x0000_0050 0 0
    -- a negative mantissa shifted by 24 or more is -1, a positive one 0
    ∷ row sum_of 24 0x4000_007f 0x8000_0000 0x7fff_fe7e 0 ∷ row sum_of 24 0x8000_0000 0x4000_0018 0x7fff_fe17 0 ∷ row sum_of 24 0x4000_007f 0x7fff_ff00 0x4000_007f 0
    -- the mantissa overflows, with either sign; the bit lost is dropped
    ∷ row sum_of 24 0x7fff_ff00 0x7fff_ff00 0x7fff_ff01 0 ∷ row sum_of 24 0x8000_0000 0x8000_0000 0x8000_0001 0 ∷ row sum_of 24 0x8000_0100 0x8000_0000 0x8000_0001 0
    ∷ row difference_of 24 0x4000_0000 0x8000_0000 0x6000_0001 0 ∷ row difference_of 24 0x8000_0000 0x8000_0000 0 0
    -- the exponent overflows, with either sign
    ∷ row sum_of 24 0x7fff_ff7f 0x4000_007f 0x7fff_ff7f 0x1000 ∷ row difference_of 24 0x8000_007f 0x4000_007f 0x8000_007f 0x1000
    -- the exponent underflows; a mantissa of zero does not
    ∷ row difference_of 24 0x4000_0180 0x4000_0080 0 0x0200 ∷ row difference_of 24 0x4000_0080 0x4000_0080 0 0 ∷ row difference_of 24 0x4000_0096 0x3fff_ff96 0x4000_0080 0
    -- unnormalised operands
    ∷ row sum_of 24 0x0000_0100 0x0000_0101 0x4000_00eb 0 ∷ row sum_of 24 0xffff_ff00 0x0000_0101 0 0
    -- the same with a mantissa of 40 bits
    ∷ row sum_of 40 0x4000_007f_0000 0x8000_0000_0000 0x7fff_ff7e_fffe 0 ∷ row sum_of 40 0x4000_0018_0000 0x8000_0000_0000 0x7fff_ff17_0000 0
    ∷ row sum_of 40 0x7fff_ff00_ffff 0x7fff_ff00_ffff 0x7fff_ff01_ffff 0 ∷ row difference_of 40 0x0000_007f_0000 0x4000_00ff_0000 0x8000_00fe_0000 0
    ∷ row sum_of 40 0x7fff_ff7f_ffff 0x4000_007f_0000 0x7fff_ff7f_ffff 0x1000 ∷ row difference_of 40 0x8000_007f_0000 0x4000_007f_0000 0x8000_007f_0000 0x1000
    ∷ row difference_of 40 0x4000_0080_0001 0x4000_0080_0000 0 0x0200 ∷ []

pub rows-hold : T (all_of right rows)
unfolding right rows
rows-hold = tt
