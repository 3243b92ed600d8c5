-- Known results, the examples of tables III and IV among them, as rows of one table that the checker computes from the definitions. Assumes nothing.
use mathlib.Core.Bool.{Bool, cond, ◌&&◌}
use mathlib.Core.List.{List, [], ◌∷◌}
use Prim.Native.Nat.{ℕ, ◌-◌}
use lib.Dec.{T, eqb}
use lib.IntN.{ℤ}
use Rattle.choice.proofs.Rows.{all_of}
use Rattle.twos_complement.specs.Whole.{signed, wrap}
use Rattle.twos_complement.specs.Normal.{normal, moves, distance}
use Rattle.float.specs.Float.{Result, is_zero, overflowed, float_zero, normalised}
use Rattle.float.specs.Words.{mantissa24, mantissa40, exponent_of, first_word, second_word, third_word}
use Rattle.float.proofs.Written.{mantissa_in, exponent_in, written, pending_of, gives}
use Rattle.float_convert.specs.Convert.{kept, minus_one, one_half, same, negated_of, absolute_of, compared, compared_of, too_large, integer_part, fixed_of, float_of}

pub data Row : Type 0 where
  sign : (ℕ → ℤ → ℕ → Result) → ℕ → ℕ → ℕ → Row  -- an operation; operand, result, pending interrupt
  order : ℕ → ℕ → ℕ → ℕ → Row  -- width; accumulator, operand, condition status
  fix : ℕ → ℕ → ℕ → ℕ → ℕ → Row  -- width; operand, register before, register after, pending interrupt: bit 4 is 0800
  float : ℕ → ℕ → ℕ → Row  -- width; integer, result

unfoldable pub right : Row → Bool
unfolding signed wrap normal moves distance is_zero overflowed float_zero normalised mantissa24 mantissa40 exponent_of first_word second_word third_word mantissa_in exponent_in written pending_of gives kept minus_one one_half same negated_of absolute_of compared compared_of too_large integer_part fixed_of float_of
right (sign f a r p) = gives 24 (f 24 (mantissa_in 24 a) (exponent_in 24 a)) r p
right (order w a b s) = eqb (compared_of (mantissa_in w a) (exponent_in w a) (mantissa_in w b) (exponent_in w b)) s
right (fix w a before n p) = eqb (fixed_of (w - 8) w (mantissa_in w a) (exponent_in w a) before) n && eqb (cond (too_large (w - 8) (exponent_in w a)) 0x0800 0) p
right (float w n r) = gives w (float_of (w - 8) w (signed (w - 8) n)) r 0

pub rows : List Row
rows =
    -- the three marked cases of BC02
    sign negated_of 0x4000_0000 0x8000_00ff 0 ∷ sign negated_of 0x8000_007f 0x7fff_ff7f 0x1000 ∷ sign negated_of 0x4000_0080 0 0x0200
    -- table III
    ∷ sign negated_of 0x7fff_ff7f 0x8000_017f 0 ∷ sign negated_of 0x5000_0004 0xb000_0004 0 ∷ sign negated_of 0x8000_0000 0x4000_0001 0
    ∷ sign negated_of 0xbfff_ff80 0x4000_0180 0 ∷ sign negated_of 0x9fff_ff04 0x6000_0104 0 ∷ sign negated_of 0 0 0
    ∷ sign absolute_of 0x8000_007f 0x7fff_ff7f 0x1000 ∷ sign absolute_of 0x8000_0000 0x4000_0001 0 ∷ sign absolute_of 0x9fff_ff04 0x6000_0104 0 ∷ sign absolute_of 0x4000_0080 0x4000_0080 0
    -- unnormalised mantissas, and zero with an exponent: nothing is normalised
    ∷ sign negated_of 0xc000_0005 0x4000_0005 0 ∷ sign negated_of 0x0000_007f 0x0000_007f 0 ∷ sign absolute_of 0xc000_0005 0x4000_0005 0 ∷ sign absolute_of 0x2000_007f 0x2000_007f 0
    -- comparison: equal values with several exponents, zeros, and an exponent that says nothing
    ∷ order 24 0x4000_0001 0x4000_0001 2 ∷ order 24 0x2000_0002 0x4000_0001 2 ∷ order 24 0x0000_0100 0x4000_00ea 2 ∷ order 24 0x0000_007f 0x0000_0080 2
    ∷ order 24 0 0x4000_0080 1 ∷ order 24 0 0x8000_0080 4 ∷ order 24 0x0000_0105 0x4000_0000 1 ∷ order 24 0xffff_ff80 0x0000_007f 1
    -- bits lost by the alignment decide
    ∷ order 24 0x2000_0001 0x4000_0100 1 ∷ order 24 0x4000_0100 0x2000_0001 4 ∷ order 24 0xe000_0001 0xbfff_ff00 4 ∷ order 24 0x4000_007f 0x7fff_ff80 4 ∷ order 24 0x8000_007f 0x8000_0080 1
    ∷ order 40 0x4000_0000_0000 0x4000_0000_0001 1 ∷ order 40 0x2000_0001_0000 0x4000_0000_0000 2 ∷ order 40 0x2000_0001_0000 0x4000_0000_0001 1
    ∷ order 40 0x8000_007f_0000 0x8000_0080_0000 1 ∷ order 40 0xa000_00ff_0000 0x8000_00ff_0000 4
    -- to integers, toward zero: 10, 1, 0.5, -1, -12.000002, -0.5000001 · 2^-128 and the two ends
    ∷ fix 24 0x5000_0004 0x1234 0x000a 0 ∷ fix 24 0x4000_0001 0x1234 1 0 ∷ fix 24 0x4000_0000 0x1234 0 0 ∷ fix 24 0x8000_0000 0x1234 0xffff 0
    ∷ fix 24 0x9fff_ff04 0x1234 0xfff4 0 ∷ fix 24 0xbfff_ff80 0x1234 0 0 ∷ fix 24 0x7fff_ff0f 0x1234 0x7fff 0 ∷ fix 24 0x8000_000f 0x1234 0x8000 0
    -- an exponent above 0F, also of a zero mantissa
    ∷ fix 24 0x4000_0010 0x1234 0x1234 0x0800 ∷ fix 24 0x0000_0010 0x1234 0x1234 0x0800 ∷ fix 24 0x4000_007f 0x1234 0x1234 0x0800
    -- the same with 40 bits, table IV among them
    ∷ fix 40 0x9fff_ff04_ffff 0 0xffff_fff4 0 ∷ fix 40 0x4000_001f_0000 0 0x4000_0000 0 ∷ fix 40 0x7fff_ff1f_ffff 0 0x7fff_ffff 0 ∷ fix 40 0x8000_001f_0000 0 0x8000_0000 0
    ∷ fix 40 0x8000_0000_0000 0 0xffff_ffff 0 ∷ fix 40 0xa000_00ff_0000 7 0 0 ∷ fix 40 0x4000_007f_0000 7 7 0x0800 ∷ fix 40 0x4000_0020_0000 7 7 0x0800
    -- from integers
    ∷ float 24 10 0x5000_0004 ∷ float 24 1 0x4000_0001 ∷ float 24 0 0 ∷ float 24 0xffff 0x8000_0000 ∷ float 24 0xfffe 0x8000_0001 ∷ float 24 0x7fff 0x7fff_000f ∷ float 24 0x8000 0x8000_000f
    ∷ float 40 1 0x4000_0001_0000 ∷ float 40 0 0 ∷ float 40 0x7fff_ffff 0x7fff_ff1f_ff00 ∷ float 40 0x8000_0000 0x8000_001f_0000 ∷ float 40 0xc000_0000 0x8000_001e_0000 ∷ float 40 0xffff_ffff 0x8000_0000_0000
    ∷ []

pub rows-hold : T (all_of right rows)
unfolding right rows
rows-hold = tt
