-- Two wrong answers of each contract that other crates call, beside the right one, which the checker computes. Assumes nothing.
use Prim.Native.Nat.{ℕ, ◌+◌}
use mathlib.Core.List.{List, [], ◌∷◌, ◌++◌}
use lib.Dec.{T}
use Rattle.choice.proofs.Rows.{Row, some, hold}
use Rattle.text.specs.Texts.{bytes_of}
use Rattle.line_operand.specs.declared.Kind.TheVariants.{Register, Number, Index}
use Rattle.std.proofs.Common.{Ok, Err}
use Rattle.line_operand.specs.declared.OperandError.TheVariants.{Malformed, Outside}
use Rattle.line_operand.specs.Numerals.{digits, value, plain, numeral, before, onward}
use Rattle.line_operand.specs.Operands.{Parsed, inside, ranged, marked, nonzero, taken_as, joined}

-- what was read as one number: 15 and 16 as the refusals, 100 more than a field
abbrev told : Parsed → ℕ
told (Err Malformed) = 15
told (Err Outside) = 16
told (Ok n) = 100 + n

pub rows : List Row
unfolding bytes_of digits value plain numeral before onward inside ranged marked nonzero taken_as joined
rows =
    -- number::cut: the byte itself left out of the rest; a cut at the last such byte
    some (before 44 (bytes_of "A,B,C") ++ (0 ∷ onward 44 (bytes_of "A,B,C"))) (65 ∷ 0 ∷ bytes_of ",B,C") (65 ∷ 0 ∷ bytes_of "B,C") (bytes_of "A,B" ++ (0 ∷ bytes_of ",C"))
    -- cursor::step: 16 before 15; index R0 accepted
    ∷ some (told (joined (taken_as Register 0 16 (bytes_of "R16")) (taken_as Number 1 16 (bytes_of "x"))) ∷ told (taken_as Index 0 16 (bytes_of "R0")) ∷ [])
    (15 ∷ 15 ∷ []) (16 ∷ 15 ∷ []) (15 ∷ 100 ∷ [])
    -- cursor::step: a register with a needless zero accepted; a number of 20 digits kept in 64 bits
    ∷ some (told (taken_as Register 0 16 (bytes_of "R03")) ∷ told (taken_as Register 0 16 (bytes_of "R18446744073709551619")) ∷ [])
    (15 ∷ 16 ∷ []) (103 ∷ 16 ∷ []) (15 ∷ 103 ∷ [])
    ∷ []

pub rows-hold : T (hold rows)
unfolding rows bytes_of digits value plain numeral before onward inside ranged marked nonzero taken_as joined
rows-hold = tt
