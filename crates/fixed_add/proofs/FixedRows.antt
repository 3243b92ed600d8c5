-- Known instructions and cases at the edges, as rows of one table that is computed from the definitions. Assumes nothing.
use mathlib.Core.Bool.{Bool, true, false, ◌&&◌, beq}
use mathlib.Core.List.{List, [], ◌∷◌}
use Prim.Native.Nat.{ℕ}
use lib.Dec.{T, eqb}
use Rattle.choice.proofs.Rows.{all_of}
use Rattle.twos_complement.specs.Whole.{signed, wrap, holds}
use Rattle.word.specs.Status.{status, with_carry}
use Rattle.fixed_add.specs.declared.Outcome.{Outcome}
use Rattle.fixed_add.specs.Fixed.{outcome_of, sum, absolute, difference, negated}

-- what is computed, and what it must be: the value, the condition status, and overflow
pub data Row : Type 0 where
  cs : ℕ → ℕ → Row
  one : Outcome ℕ → ℕ → ℕ → Bool → Row

pub right : Row → Bool
right (cs s c) = eqb s c
right (one x v c o) = eqb x.value v && eqb x.cs c && beq x.overflow o

pub rows : List Row
rows =
    -- 823F, 8330: what they load
    cs (status 16 0x0010) 0b0100
    ∷ cs (status 16 0xffff) 0b0001
    -- B412, R2 = 8000
    ∷ one (negated 16 0x8000) 0x8000 0b0001 true
    -- B702: 0 less 1, 8000 0000 less 1
    ∷ one (difference 32 0 1) 0xffff_ffff 0b0001 false
    ∷ one (difference 32 0x8000_0000 1) 0x7fff_ffff 0b1100 true
    -- 5.55: the highest number and 1, the lowest twice, -1 and 1
    ∷ one (sum 16 0x7fff 1) 0x8000 0b0001 true
    ∷ one (sum 16 0x8000 0x8000) 0x0000 0b1010 true
    ∷ one (sum 16 0xffff 1) 0x0000 0b1010 false
    -- 5.57, 5.58: the lowest number, -1
    ∷ one (absolute 16 0x8000) 0x8000 0b0001 true
    ∷ one (absolute 32 0x8000_0000) 0x8000_0000 0b0001 true
    ∷ one (absolute 32 0xffff_ffff) 1 0b0100 false
    -- 5.63: subtracting 0 always has carry
    ∷ one (difference 16 0 0) 0x0000 0b1010 false
    ∷ one (difference 16 0x8000 0) 0x8000 0b1001 false
    ∷ one (difference 16 0 0x8000) 0x8000 0b0001 true
    -- 5.65, 5.66: zero, the lowest number
    ∷ one (negated 16 0) 0x0000 0b0010 false
    ∷ one (negated 32 0x8000_0000) 0x8000_0000 0b0001 true
    ∷ []

pub rows-hold : T (all_of right rows)
unfolding right rows signed wrap holds status with_carry outcome_of sum absolute difference negated
rows-hold = tt
