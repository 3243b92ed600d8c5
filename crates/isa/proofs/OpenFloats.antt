-- Opens every definition of floats at once: `unfolding floats`. Written by tools/open.py. Assumes nothing.
use Rattle.float.specs.Float.{is_zero, overflowed, float_zero, normalised, given}
use Rattle.float.specs.Words.{mantissa24, mantissa40, exponent_of, first_word, second_word, third_word}
use Rattle.float_exact.specs.Exact.{mantissa_at, highest, truncated, signs_differ, overflow_of}
use Rattle.float_exact.specs.Steps.{signed_by, tail, ranged, upper}
use Rattle.float_add.specs.Add.{common, aligned, finished, fitted, sum_of, difference_of}
use Rattle.float_mul.specs.Multiply.{product_of}
use Rattle.float_div.specs.Divide.{quotient_of}
use Rattle.float_convert.specs.Convert.{kept, minus_one, one_half, same, negated_of, absolute_of, compared, compared_of, too_large, integer_part, fixed_of, float_of}

unfoldable pub floats : Unit {0}
unfolding is_zero overflowed float_zero normalised given mantissa24 mantissa40 exponent_of first_word second_word third_word mantissa_at highest truncated signs_differ overflow_of signed_by tail ranged upper common aligned finished fitted sum_of difference_of product_of quotient_of kept minus_one one_half same negated_of absolute_of compared compared_of too_large integer_part fixed_of float_of
floats = tt
