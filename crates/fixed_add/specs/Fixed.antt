-- Fixed point arithmetic (section 5) on the bits of its operands, each operation once for any width w: 16 bits are single precision, 32 bits double precision.
-- Overflow is said once, in `outcome_of`; that the lines that the pages print come to the same is proved in proofs/SumLines.antt. Assumes nothing.
use Rattle.std.specs.Prelude.{Bool, false, not, ℕ, ◌+◌, ◌-◌, ◌^◌, ℤ, pos, neg_ℤ, nat_abs, ◌+ℤ◌, ◌-ℤ◌, leb}
use Rattle.twos_complement.specs.Whole.{signed, wrap, holds}
use Rattle.word.specs.Status.{status, with_carry}
use Rattle.fixed_add.specs.declared.Outcome.{Outcome}

-- what an operation gives, with the number that the bits of its result make
abbrev pub numbered : {A : Type 0} → (A → ℕ) → Outcome A → Outcome ℕ
numbered number o = record { value = number o.value; cs = o.cs; overflow = o.overflow }

-- the exact result z at w bits: its low w bits are kept (4.1.4), their status is set with the carry c, and overflow is a result that w bits do not hold (4.1.3)
unfoldable pub outcome_of : ℕ → Bool → ℤ → Outcome ℕ
outcome_of w c z = record { value = wrap w z; cs = with_carry c (status w (wrap w z)); overflow = not (holds w z) }

-- add (5.55, 5.59), and increment memory (5.56) with b = N: the carry is that out of the top bit
unfoldable pub sum : ℕ → ℕ → ℕ → Outcome ℕ
sum w a b = outcome_of w (leb (2 ^ w) (a + b)) (signed w a +ℤ signed w b)

-- absolute value (5.57, 5.58)
unfoldable pub absolute : ℕ → ℕ → Outcome ℕ
absolute w a = outcome_of w false (pos (nat_abs (signed w a)))

-- subtract (5.63, 5.67), and decrement memory (5.64) with b = N: the carry is that of a plus the complement of b plus 1
unfoldable pub difference : ℕ → ℕ → ℕ → Outcome ℕ
difference w a b = outcome_of w (leb (2 ^ w) (a + (2 ^ w - 1 - b) + 1)) (signed w a -ℤ signed w b)

-- negate (5.65, 5.66)
unfoldable pub negated : ℕ → ℕ → Outcome ℕ
negated w a = outcome_of w false (neg_ℤ (signed w a))
