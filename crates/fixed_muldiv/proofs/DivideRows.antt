-- Known instructions and cases at the edges of multiply and divide, as rows of one table that is computed from the definitions. Assumes nothing.
use mathlib.Core.Bool.{Bool, true, false, ◌&&◌, beq}
use mathlib.Core.List.{List, [], ◌∷◌}
use Prim.Native.Nat.{ℕ}
use lib.Dec.{T, eqb}
use Rattle.choice.proofs.Rows.{all_of}
use Rattle.twos_complement.specs.Whole.{signed, wrap, holds}
use Rattle.word.specs.Status.{status, with_carry}
use Rattle.fixed_add.specs.declared.Outcome.{Outcome}
use Rattle.fixed_add.specs.Fixed.{outcome_of}
use Rattle.fixed_muldiv.specs.declared.Quotient.{Quotient}
use Rattle.fixed_muldiv.specs.Divide.{product, long_product, division, divided, long_divided, quotient}

-- what is computed, and what it must be: the value, or quotient and remainder, the condition status, and overflow
pub data Row : Type 0 where
  one : Outcome ℕ → ℕ → ℕ → Bool → Row
  two : Quotient ℕ → ℕ → ℕ → ℕ → Bool → Row

pub right : Row → Bool
right (one x v c o) = eqb x.value v && eqb x.cs c && beq x.overflow o
right (two x q r c o) = eqb x.quotient q && eqb x.remainder r && eqb x.cs c && beq x.overflow o

pub rows : List Row
rows =
    -- C112: 0100 and 0100, FFFF and 8000
    one (product 16 0x0100 0x0100) 0x0000 0b0010 true
    ∷ one (product 16 0xffff 0x8000) 0x8000 0b0001 true
    -- 5.72: the lowest number squared
    ∷ one (long_product 16 0x8000 0x8000) 0x4000_0000 0b0100 false
    ∷ one (long_product 16 0xffff 0x7fff) 0xffff_8001 0b0001 false
    -- 5.73: a zero operand; an operand whose upper register alone is zero
    ∷ one (product 32 0 0x8000_0000) 0 0b0010 false
    ∷ one (product 32 0x0000_8000 0xfffe_0000) 0 0b0010 true
    ∷ one (product 32 0xffff_ffff 0x8000_0000) 0x8000_0000 0b0001 true
    -- 5.76: 7 and 2 in the four combinations of signs; the lowest number and -1; a zero divisor
    ∷ two (divided 16 7 2) 3 1 0b0100 false
    ∷ two (divided 16 0xfff9 2) 0xfffd 0xffff 0b0001 false
    ∷ two (divided 16 7 0xfffe) 0xfffd 1 0b0001 false
    ∷ two (divided 16 0xfff9 0xfffe) 3 0xffff 0b0100 false
    ∷ two (divided 16 0x8000 0xffff) 0x8000 0 0b0001 true
    ∷ two (divided 16 0x1234 0) 0 0 0b0010 true
    -- 5.77: the same signs; the upper half below, at and above the divisor; an upper half of 8000; a zero divisor
    ∷ two (long_divided 16 0x0000_0007 2) 3 1 0b0100 false
    ∷ two (long_divided 16 0xffff_fff9 2) 0xfffd 0xffff 0b0001 false
    ∷ two (long_divided 16 0x0000_0007 0xfffe) 0xfffd 1 0b0001 false
    ∷ two (long_divided 16 0xffff_fff9 0xfffe) 3 0xffff 0b0100 false
    ∷ two (long_divided 16 0x0001_ffff 2) 0xffff 1 0b0001 false
    ∷ two (long_divided 16 0x0002_0000 2) 0x0000 0 0b0010 true
    ∷ two (long_divided 16 0xffff_8000 1) 0x8000 0 0b0001 true
    ∷ two (long_divided 16 0x7fff_ffff 0x8000) 0x0001 0x7fff 0b0100 false
    ∷ two (long_divided 16 0x8000_0000 0x7fff) 0xfffe 0xfffe 0b0001 true
    ∷ two (long_divided 16 0x8000_0000 0x8000) 0x0000 0 0b0010 true
    ∷ two (long_divided 16 0x0000_1234 0) 0 0 0b0010 true
    -- 5.78: the lowest number and -1; a zero divisor
    ∷ one (quotient 32 0x8000_0000 0xffff_ffff) 0x8000_0000 0b0001 true
    ∷ one (quotient 32 0x1234_5678 0) 0 0b0010 true
    ∷ []

pub rows-hold : T (all_of right rows)
unfolding right rows signed wrap holds status with_carry outcome_of product long_product division divided long_divided quotient
rows-hold = tt
