-- Known products or quotients as rows of a table, which the checker computes by the definition. Assumes nothing.
use mathlib.Core.Bool.{Bool, true, false, ◌&&◌, beq}
use Prim.Native.Nat.{ℕ, ◌+◌, ◌-◌, ◌*◌, ◌/◌, ◌%◌, ◌^◌}
use lib.Dec.{eqb}
use lib.IntN.{ℤ}
use Rattle.twos_complement.specs.Whole.{signed, wrap}
use Rattle.float.specs.Float.{Result}

-- the width of the mantissa, the accumulator, the operand and the result, as the standard packs floats (4.1.5, 4.1.6)
pub data Row : Type 0 where
  plain over under : ℕ → ℕ → ℕ → ℕ → Row

-- the mantissa's first 24 bits, the exponent, and the mantissa's other bits
abbrev mantissa : ℕ → ℕ → ℕ
mantissa w a = a / 2 ^ (w - 16) * 2 ^ (w - 24) + a % 2 ^ (w - 24)

abbrev exponent : ℕ → ℕ → ℕ
exponent w a = (a / 2 ^ (w - 24) % 256 + 128) % 256

abbrev is : ℕ → ℕ → Bool → Bool → Result → Bool
is w r o u x = eqb (wrap w x.mantissa) (mantissa w r) && eqb x.exponent (exponent w r) && beq x.overflow o && beq x.underflow u

abbrev gives : (ℕ → ℤ → ℕ → ℤ → ℕ → Result) → ℕ → ℕ → ℕ → Result
gives f w a b = f w (signed w (mantissa w a)) (exponent w a) (signed w (mantissa w b)) (exponent w b)

unfoldable pub right : (ℕ → ℤ → ℕ → ℤ → ℕ → Result) → Row → Bool
unfolding signed wrap
right f (plain w a b r) = is w r false false (gives f w a b)
right f (over w a b r) = is w r true false (gives f w a b)
right f (under w a b r) = is w r false true (gives f w a b)
