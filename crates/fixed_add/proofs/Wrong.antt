-- Two wrong answers of each contract that other crates call, beside the right one, which the checker computes. Assumes nothing.
use Prim.Native.Nat.{ℕ}
use mathlib.Core.Bool.{true, false}
use mathlib.Core.List.{List, [], ◌∷◌}
use lib.Dec.{T}
use lib.IntN.{sub_ℕ}
use Rattle.choice.proofs.Rows.{Row, some, hold, flag}
use Rattle.twos_complement.specs.Whole.{signed, wrap, holds}
use Rattle.word.specs.Status.{status, with_carry}
use Rattle.fixed_add.specs.declared.Outcome.{Outcome}
use Rattle.fixed_add.specs.Fixed.{outcome_of, sum, absolute, difference, negated}

-- the value, the condition status, and overflow
abbrev pub parts : Outcome ℕ → List ℕ
parts x = x.value ∷ x.cs ∷ flag x.overflow ∷ []

pub rows : List Row
rows =
    -- narrow::narrow: at 16 bits, 8000 above zero without overflow; the largest number instead
    some (parts (outcome_of 16 false (sub_ℕ 0x1_0000_8000 0x1_0000_0000))) (0x8000 ∷ 1 ∷ 1 ∷ []) (0x8000 ∷ 1 ∷ 0 ∷ []) (0x7FFF ∷ 4 ∷ 1 ∷ [])
    -- narrow::narrow: at 32 bits, one below the lowest number without overflow; the carry lost
    ∷ some (parts (outcome_of 32 true (sub_ℕ 0x7FFF_FFFF_7FFF_FFFF 0x8000_0000_0000_0000)))
    (0x7FFF_FFFF ∷ 12 ∷ 1 ∷ []) (0x7FFF_FFFF ∷ 12 ∷ 0 ∷ []) (0x7FFF_FFFF ∷ 4 ∷ 1 ∷ [])
    -- sums::add: at 16 bits, no overflow; the carry out of bit 1
    ∷ some (parts (sum 16 0x7FFF 1)) (0x8000 ∷ 1 ∷ 1 ∷ []) (0x8000 ∷ 1 ∷ 0 ∷ []) (0x8000 ∷ 9 ∷ 1 ∷ [])
    -- sums::add: at 32 bits, the carry between the halves lost; no overflow
    ∷ some (parts (sum 32 0x7FFF_FFFF 1)) (0x8000_0000 ∷ 1 ∷ 1 ∷ []) (0x7FFF_0000 ∷ 4 ∷ 0 ∷ []) (0x8000_0000 ∷ 1 ∷ 0 ∷ [])
    -- sums::absolute: at 16 bits, no overflow; the largest number instead
    ∷ some (parts (absolute 16 0x8000)) (0x8000 ∷ 1 ∷ 1 ∷ []) (0x8000 ∷ 1 ∷ 0 ∷ []) (0x7FFF ∷ 4 ∷ 1 ∷ [])
    -- sums::absolute: at 32 bits, kept, by the sign of the lower half; the complement
    ∷ some (parts (absolute 32 0xFFFF_0000)) (0x0001_0000 ∷ 4 ∷ 0 ∷ []) (0xFFFF_0000 ∷ 1 ∷ 0 ∷ []) (0x0000_FFFF ∷ 4 ∷ 0 ∷ [])
    -- sums::sub: at 16 bits, the operands exchanged; C where there is a borrow
    ∷ some (parts (difference 16 5 3)) (2 ∷ 12 ∷ 0 ∷ []) (0xFFFE ∷ 1 ∷ 0 ∷ []) (2 ∷ 4 ∷ 0 ∷ [])
    -- sums::sub: at 32 bits, the borrow between the halves lost; the status of the lower half
    ∷ some (parts (difference 32 0x0001_0000 1)) (0x0000_FFFF ∷ 12 ∷ 0 ∷ []) (0x0001_FFFF ∷ 12 ∷ 0 ∷ []) (0x0000_FFFF ∷ 9 ∷ 0 ∷ [])
    -- sums::negate: at 16 bits, no overflow; the complement
    ∷ some (parts (negated 16 0x8000)) (0x8000 ∷ 1 ∷ 1 ∷ []) (0x8000 ∷ 1 ∷ 0 ∷ []) (0x7FFF ∷ 4 ∷ 0 ∷ [])
    -- sums::negate: at 32 bits, each half negated by itself; the complement
    ∷ some (parts (negated 32 0x0001_0001)) (0xFFFE_FFFF ∷ 1 ∷ 0 ∷ []) (0xFFFF_FFFF ∷ 1 ∷ 0 ∷ []) (0xFFFE_FFFE ∷ 1 ∷ 0 ∷ [])
    ∷ []

pub rows-hold : T (hold rows)
unfolding rows signed wrap holds status with_carry outcome_of sum absolute difference negated
rows-hold = tt
