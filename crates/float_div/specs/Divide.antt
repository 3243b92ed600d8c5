-- Floating point divide with a mantissa of any width w (5.79, 5.80). Exponents are the standard's plus 128; the standard's n, EA - EO, is ea - eo.
-- Assumes nothing.
use Rattle.std.specs.Prelude.{true, cond, ◌||◌, ℕ, ◌+◌, ◌^◌, ℤ, pos, nat_abs, ◌*ℤ◌, ltb, leb}
use Rattle.float.specs.Float.{Result, is_zero, float_zero}
use Rattle.float_exact.specs.Exact.{truncated, overflow_of}
use Rattle.float_exact.specs.Steps.{one_if}

-- In the order of the page:
-- * a zero divisor, or n above 7F, overflows, by the signs of the operands;
-- * n below 80 underflows, also where the dividend is zero;
-- * a quotient of 1.0 or more in magnitude is moved right by one place, with n + 1; n above 7F overflows, by the sign of the quotient (MQ, which the page prints as MO);
-- * otherwise the exact quotient is normalised and truncated. At n it is za 2^(w-1) / zo last places, so at the exponent 0, n + 128 places lower, it is za 2^(ea + w-1 + 128) / (zo 2^eo).
unfoldable pub quotient_of : ℕ → ℤ → ℕ → ℤ → ℕ → Result
quotient_of w za ea zo eo =
    cond (is_zero zo || ltb (eo + 127) ea) (overflow_of w za zo)
    (cond (ltb (ea + 128) eo) (float_zero true)
    (cond (ltb (eo + 127) (ea + one_if (leb (nat_abs zo) (nat_abs za)))) (overflow_of w za zo)
    (truncated w (za *ℤ pos (2 ^ (ea + w + 127))) (zo *ℤ pos (2 ^ eo)))))
