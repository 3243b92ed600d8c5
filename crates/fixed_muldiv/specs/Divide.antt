-- Fixed point multiply and divide (section 5) on the bits of their operands, each operation once for any width w.
-- That the overflow lines that the pages print come to the same is proved in proofs/ProductLines.antt and proofs/QuotientLines.antt. Assumes nothing.
use Rattle.std.specs.Prelude.{true, false, not, cond, ℕ, ◌+◌, ◌/◌, ◌^◌, ℤ, nat_abs, ◌*ℤ◌, leb, eqb}
use Rattle.std.specs.Int.Signed.{quot_z, rem_z}
use Rattle.twos_complement.specs.Whole.{signed, wrap, holds}
use Rattle.word.specs.Status.{status}
use Rattle.fixed_add.specs.declared.Outcome.{Outcome}
use Rattle.fixed_add.specs.Fixed.{outcome_of}
use Rattle.fixed_muldiv.specs.declared.Quotient.{Quotient}

-- what a division gives, with the numbers that the bits of the quotient and the remainder make
abbrev pub both_numbered : {A : Type 0} → (A → ℕ) → Quotient A → Quotient ℕ
both_numbered number q = record { quotient = number q.quotient; remainder = number q.remainder; cs = q.cs; overflow = q.overflow }

-- multiply, keeping as many bits as an operand has (5.71, 5.73)
unfoldable pub product : ℕ → ℕ → ℕ → Outcome ℕ
product w a b = outcome_of w false (signed w a *ℤ signed w b)

-- multiply, keeping all bits (5.72)
unfoldable pub long_product : ℕ → ℕ → ℕ → Outcome ℕ
long_product w a b = outcome_of (w + w) false (signed w a *ℤ signed w b)

-- the quotient of n and d toward zero, and the remainder with the sign of n (4.1.9), at w bits; a zero divisor overflows and gives zeros (4.1.4)
unfoldable pub division : ℕ → ℤ → ℤ → Quotient ℕ
division w n d =
    cond (eqb (nat_abs d) 0) (record { quotient = 0; remainder = 0; cs = 2; overflow = true })
    (record { quotient = wrap w (quot_z n d); remainder = wrap w (rem_z n d); cs = status w (wrap w (quot_z n d)); overflow = not (holds w (quot_z n d)) })

-- divide w bits by w bits (5.76)
unfoldable pub divided : ℕ → ℕ → ℕ → Quotient ℕ
divided w a b = division w (signed w a) (signed w b)

-- divide 2w bits by w bits (5.77): overflow where the magnitude of the dividend's upper half reaches that of the divisor, as it does of a zero divisor
unfoldable pub long_divided : ℕ → ℕ → ℕ → Quotient ℕ
long_divided w n d =
    let q = division w (signed (w + w) n) (signed w d) in
    record { quotient = q.quotient; remainder = q.remainder; cs = q.cs; overflow = leb (nat_abs (signed w d)) (nat_abs (signed w (n / 2 ^ w))) }

-- divide w bits by w bits, the remainder being lost (5.78)
unfoldable pub quotient : ℕ → ℕ → ℕ → Outcome ℕ
quotient w a b = let q = divided w a b in record { value = q.quotient; cs = q.cs; overflow = q.overflow }
