-- Negative, absolute value, comparison and conversion of floats with a mantissa of any width w: a whole number z, and an exponent e from 0 to 255, the standard's plus 128.
-- Assumes nothing.
use Rattle.std.specs.Prelude.{Bool, true, false, cond, ◌&&◌, ℕ, ◌+◌, ◌-◌, ◌^◌, ℤ, pos, negsuc, neg_ℤ, ◌*ℤ◌, ltb, eqb}
use Rattle.std.specs.Int.Signed.{non_neg, lt_z, quot_z}
use Rattle.twos_complement.specs.Whole.{wrap}
use Rattle.float.specs.Float.{Result, overflowed, float_zero, normalised}

-- a mantissa and an exponent as they stand
unfoldable pub kept : ℤ → ℕ → Result
kept z e = record { mantissa = z; exponent = e; overflow = false; underflow = false }

-- the mantissas -1.0 and 0.5, 8000 00 and 4000 00 at 24 bits
unfoldable pub minus_one : ℕ → ℤ
minus_one w = negsuc (2 ^ (w - 1) - 1)

unfoldable pub one_half : ℕ → ℤ
one_half w = pos (2 ^ (w - 2))

unfoldable pub same : ℤ → ℤ → Bool
same (pos a) (pos b) = eqb a b
same (negsuc a) (negsuc b) = eqb a b
same (pos a) (negsuc b) = false
same (negsuc a) (pos b) = false

-- 5.70, line by line: the smallest negative number overflows, the smallest positive one underflows, other powers of two move by one place, all else is complemented
unfoldable pub negated_of : ℕ → ℤ → ℕ → Result
negated_of w z e =
    cond (same z (minus_one w) && eqb e 255) (overflowed w (pos 0))
    (cond (same z (one_half w) && eqb e 0) (float_zero true)
    (cond (same z (minus_one w)) (kept (one_half w) (e + 1))
    (cond (same z (one_half w)) (kept (minus_one w) (e - 1))
    (kept (neg_ℤ z) e))))

-- 5.62: the negative of a mantissa below zero; any other is kept
unfoldable pub absolute_of : ℕ → ℤ → ℕ → Result
absolute_of w z e = cond (non_neg z) (kept z e) (negated_of w z e)

-- the condition status of a comparison: 0001 below, 0100 above, 0010 equal
unfoldable pub compared : ℤ → ℤ → ℕ
compared x y = cond (lt_z x y) 1 (cond (lt_z y x) 4 2)

-- 5.94, 5.95: by exact value; both sides are taken times the same power of two, so that they are whole
unfoldable pub compared_of : ℤ → ℕ → ℤ → ℕ → ℕ
compared_of za ea zo eo = compared (za *ℤ pos (2 ^ ea)) (zo *ℤ pos (2 ^ eo))

-- 5.85 (n = 16), 5.87 (n = 32): an exponent above n - 1, 0F or 1F, is an overflow
unfoldable pub too_large : ℕ → ℕ → Bool
too_large n e = ltb (n + 127) e

-- the integer portion of z / 2^(w-1) · 2^(e-128), truncated toward zero
unfoldable pub integer_part : ℕ → ℤ → ℕ → ℤ
integer_part w z e = quot_z z (pos (2 ^ (w + 127 - e)))

-- 5.85, 5.87: the n bits of the integer portion; after an overflow the n bits that were there before
unfoldable pub fixed_of : ℕ → ℕ → ℤ → ℕ → ℕ → ℕ
fixed_of n w z e before = cond (too_large n e) before (wrap n (integer_part w z e))

-- 5.86 (n = 16), 5.88 (n = 32): an integer z of n bits is at first the upper n bits of a mantissa, with exponent n - 1, 0F or 1F, and then is normalised
unfoldable pub float_of : ℕ → ℕ → ℤ → Result
float_of n w z = normalised w (z *ℤ pos (2 ^ (w - n))) (n + 127)
