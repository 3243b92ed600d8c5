-- An exact value as a float with a mantissa of any width w: normalised (4.1.5) and truncated toward minus infinity (4.1.8). Exponents are the standard's plus 128.
-- Assumes nothing.
use Rattle.std.specs.Prelude.{Bool, true, false, not, cond, ℕ, zero, suc, ◌^◌, ℤ, pos, ◌*ℤ◌}
use Rattle.std.specs.Bool.{beq}
use Rattle.std.specs.Int.Signed.{non_neg}
use Rattle.twos_complement.specs.Whole.{with_sign, floor_div}
use Rattle.twos_complement.specs.Normal.{normal}
use Rattle.float.specs.Float.{Result, is_zero, overflowed, float_zero}

-- the mantissa of the exact value num / den at the exponent e, truncated toward minus infinity (4.1.8); at the exponent 0 it is num / den itself, in units of its last place
unfoldable pub mantissa_at : ℤ → ℤ → ℕ → ℤ
mantissa_at num den e = floor_div num (den *ℤ pos (2 ^ e))

-- normalised (4.1.5): the highest exponent below b at which the first two bits of the mantissa differ, so that it moved left no further than needed; without one, underflow (4.1.7)
unfoldable pub highest : ℕ → ℤ → ℤ → ℕ → Result
highest w num den zero = float_zero true
highest w num den (suc e) =
    cond (normal w (mantissa_at num den e))
    (record { mantissa = mantissa_at num den e; exponent = e; overflow = false; underflow = false })
    (highest w num den e)

-- the exact value num / den as a float: zero; overflow where the mantissa is as long above the exponent 255, the standard's 7F (4.1.7); or normalised
unfoldable pub truncated : ℕ → ℤ → ℤ → Result
truncated w num den =
    cond (is_zero num) (float_zero false)
    (cond (normal w (mantissa_at num den 256)) (overflowed w (mantissa_at num den 256)) (highest w num den 256))

-- whether the first bits of two mantissas differ
unfoldable pub signs_differ : ℤ → ℤ → Bool
signs_differ za zo = not (beq (non_neg za) (non_neg zo))

-- overflow of a product or a quotient: negative where the first bits of the operands differ
unfoldable pub overflow_of : ℕ → ℤ → ℤ → Result
overflow_of w za zo = overflowed w (with_sign (signs_differ za zo) 1)
