-- Two wrong answers of each contract that other crates call, beside the right one, which the checker computes. Assumes nothing.
use mathlib.Core.List.{List, [], ◌∷◌}
use lib.Dec.{T}
use Rattle.choice.proofs.Rows.{Row, some, hold}
use Rattle.twos_complement.specs.Whole.{signed, wrap, holds}
use Rattle.twos_complement.specs.Normal.{normal, moves, distance}
use Rattle.float.specs.Float.{is_zero, overflowed, float_zero, normalised, given}
use Rattle.float.proofs.Wrong.{parts}
use Rattle.float_add.specs.Add.{common, aligned, finished, fitted, sum_of, difference_of}

pub rows : List Row
rows =
    -- stages::add: 1.0 plus 0.5 without alignment; the exponent of the operand
    some (parts (given 24 (sum_of 24 (signed 24 0x40_0000) 129 (signed 24 0x40_0000) 128)))
    (0x60_0000 ∷ 129 ∷ 0 ∷ 0 ∷ []) (0x40_0000 ∷ 130 ∷ 0 ∷ 0 ∷ []) (0x60_0000 ∷ 128 ∷ 0 ∷ 0 ∷ [])
    -- stages::subtract: 1.0 less 0.5 with the operands exchanged; not normalised
    ∷ some (parts (given 24 (difference_of 24 (signed 24 0x40_0000) 129 (signed 24 0x40_0000) 128)))
    (0x40_0000 ∷ 128 ∷ 0 ∷ 0 ∷ []) (0x80_0000 ∷ 127 ∷ 0 ∷ 0 ∷ []) (0x20_0000 ∷ 129 ∷ 0 ∷ 0 ∷ [])
    ∷ []

pub rows-hold : T (hold rows)
unfolding rows signed wrap holds normal moves distance is_zero overflowed float_zero normalised given common aligned finished fitted sum_of difference_of
rows-hold = tt
