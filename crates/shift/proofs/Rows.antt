-- Known cases of the shifts, as rows of one table, against the definitions. Assumes nothing.
use mathlib.Core.Bool.{Bool, true, false, ◌&&◌, beq}
use mathlib.Core.List.{List, [], ◌∷◌}
use Prim.Native.Nat.{ℕ}
use lib.Dec.{eqb, T}
use Rattle.choice.proofs.Rows.{all_of}
use Rattle.twos_complement.specs.Whole.{signed, wrap, holds, shift_left, shift_right, shift_arith, rotate, sign_changes}
use Rattle.word.specs.Status.{status}
use Rattle.shift.specs.declared.Shifted.{Shifted}
use Rattle.shift.specs.Shift.{count_of, moved, shifted_by, logical_by, arithmetic_by, circular_by}

-- a case: the width, the word, the number of places or the count word; then the result, for a count word with CS and overflow
pub data Row : Type 0 where
  left right arith cyclic : ℕ → ℕ → ℕ → ℕ → Row
  logically arithmetically cyclically : ℕ → ℕ → ℕ → ℕ → ℕ → Bool → Row

unfoldable pub is : ℕ → Shifted ℕ → ℕ → ℕ → Bool → Bool
unfolding status
is w s value cs overflow = eqb s.value value && eqb (status w s.value) cs && beq s.overflow overflow

unfoldable pub holds_of : Row → Bool
unfolding signed wrap holds shift_left shift_right shift_arith rotate sign_changes count_of moved shifted_by is
holds_of (left w a n r) = eqb (shift_left w n a) r
holds_of (right w a n r) = eqb (shift_right w n a) r
holds_of (arith w a n r) = eqb (shift_arith w n a) r
holds_of (cyclic w a n r) = eqb (rotate w n a) r
holds_of (logically w a count r cs o) = is w (logical_by w a count) r cs o
holds_of (arithmetically w a count r cs o) = is w (arithmetic_by w a count) r cs o
holds_of (cyclically w a count r cs o) = is w (circular_by w a count) r cs o

-- the pages' examples, by 4 places, and shifts by 16 (5.10 to 5.17)
pub fixed_rows : List Row
fixed_rows =
    left 16 0xa5c3 4 0x5c30 ∷ right 16 0xa5c3 4 0x0a5c ∷ arith 16 0xa5c3 4 0xfa5c ∷ arith 16 0x25c3 4 0x025c ∷ cyclic 16 0xa5c3 4 0x5c3a
    ∷ left 32 0xa5c39678 4 0x5c396780 ∷ right 32 0xa5c39678 4 0x0a5c3967 ∷ arith 32 0xa5c39678 4 0xfa5c3967 ∷ cyclic 32 0xa5c39678 4 0x5c39678a
    ∷ left 16 0xa5c3 16 0 ∷ right 16 0xa5c3 16 0 ∷ arith 16 0xa5c3 16 0xffff ∷ arith 16 0x7fff 16 0 ∷ cyclic 16 0xa5c3 16 0xa5c3
    ∷ left 32 0xa5c39678 16 0x96780000 ∷ right 32 0xa5c39678 16 0xa5c3 ∷ arith 32 0xa5c39678 16 0xffffa5c3 ∷ cyclic 32 0xa5c39678 16 0x9678a5c3 ∷ []

-- counts in a register, with the largest ones that shift, the next ones, and 8000 (5.18 to 5.20)
pub single_rows : List Row
single_rows =
    logically 16 0xa5c3 4 0x5c30 4 false ∷ logically 16 0xa5c3 0xfffc 0x0a5c 4 false ∷ logically 16 0xa5c3 0 0xa5c3 1 false
    ∷ logically 16 0xa5c3 16 0 2 false ∷ logically 16 0xa5c3 17 0xa5c3 1 true ∷ logically 16 0xa5c3 0xfff0 0 2 false ∷ logically 16 0xa5c3 0xffef 0xa5c3 1 true
    ∷ logically 16 0xa5c3 0x8000 0xa5c3 1 true ∷ logically 16 0 0x7fff 0 2 true
    ∷ arithmetically 16 0xa000 2 0x8000 1 true ∷ arithmetically 16 0x5000 2 0x4000 4 true ∷ arithmetically 16 0xc000 1 0x8000 1 false ∷ arithmetically 16 0xc000 2 0 2 true
    ∷ arithmetically 16 0x3fff 1 0x7ffe 4 false ∷ arithmetically 16 0x4000 1 0x8000 1 true ∷ arithmetically 16 0xffff 15 0x8000 1 false ∷ arithmetically 16 0xffff 16 0 2 true
    ∷ arithmetically 16 0 16 0 2 false ∷ arithmetically 16 1 16 0 2 true ∷ arithmetically 16 0xa5c3 0xfff0 0xffff 1 false ∷ arithmetically 16 0xa5c3 0xffef 0xa5c3 1 true
    ∷ cyclically 16 0xa5c3 4 0x5c3a 4 false ∷ cyclically 16 0xa5c3 0xfffc 0x3a5c 4 false ∷ cyclically 16 0xa5c3 16 0xa5c3 1 false ∷ cyclically 16 0xa5c3 0xfff0 0xa5c3 1 false
    ∷ cyclically 16 0xa5c3 0 0xa5c3 1 false ∷ cyclically 16 0xa5c3 17 0xa5c3 1 true ∷ cyclically 16 0xa5c3 0x8000 0xa5c3 1 true ∷ []

-- the same of double words (5.21 to 5.23)
pub double_rows : List Row
double_rows =
    logically 32 0xa5c39678 17 0x2cf00000 4 false ∷ logically 32 0xa5c39678 32 0 2 false ∷ logically 32 0xa5c39678 33 0xa5c39678 1 true
    ∷ logically 32 0xa5c39678 0xffe0 0 2 false ∷ logically 32 0xa5c39678 0xffdf 0xa5c39678 1 true ∷ logically 32 0xa5c39678 0x8000 0xa5c39678 1 true
    ∷ arithmetically 32 0xa0000000 2 0x80000000 1 true ∷ arithmetically 32 0xffffffff 31 0x80000000 1 false ∷ arithmetically 32 0xffffffff 32 0 2 true
    ∷ arithmetically 32 0xa5c39678 0xffe0 0xffffffff 1 false ∷ arithmetically 32 0xa5c39678 0xffdf 0xa5c39678 1 true ∷ arithmetically 32 0 32 0 2 false
    ∷ cyclically 32 0xa5c39678 4 0x5c39678a 4 false ∷ cyclically 32 0xa5c39678 0xfffc 0x8a5c3967 1 false ∷ cyclically 32 0xa5c39678 32 0xa5c39678 1 false
    ∷ cyclically 32 0xa5c39678 0xffe0 0xa5c39678 1 false ∷ cyclically 32 0xa5c39678 33 0xa5c39678 1 true ∷ []

pub rows-hold : T (all_of holds_of fixed_rows && all_of holds_of single_rows && all_of holds_of double_rows)
unfolding holds_of fixed_rows single_rows double_rows
rows-hold = tt
