-- Floating point multiply with a mantissa of any width w (5.74, 5.75). Exponents are the standard's plus 128, so the standard's n, EA + EO, is ea + eo - 256.
-- Assumes nothing.
use Rattle.std.specs.Prelude.{true, cond, ℕ, ◌+◌, ◌^◌, ℤ, pos, ◌*ℤ◌, ltb}
use Rattle.float.specs.Float.{Result, float_zero}
use Rattle.float_exact.specs.Exact.{truncated, overflow_of}

-- In the order of the page:
-- * n above 7F overflows, by the signs of the operands, and n below 80 underflows; both also where a mantissa is zero;
-- * otherwise the exact product is normalised and truncated. At n it is za zo / 2^(w-1) last places, so at the exponent 0, n + 128 places lower, it is za zo 2^(ea + eo) / 2^(w-1 + 128).
-- Of -1.0 and -1.0 it is 1.0, which normalises to the right, to 4000 00 with n + 1, and overflows where that is above 7F.
unfoldable pub product_of : ℕ → ℤ → ℕ → ℤ → ℕ → Result
product_of w za ea zo eo =
    cond (ltb 383 (ea + eo)) (overflow_of w za zo)
    (cond (ltb (ea + eo) 128) (float_zero true)
    (truncated w (za *ℤ zo *ℤ pos (2 ^ (ea + eo))) (pos (2 ^ (w + 127)))))
