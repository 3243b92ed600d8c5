-- Two wrong answers of each contract that other crates call, beside the right one, which the checker computes. Assumes nothing.
use Prim.Native.Nat.{◌+◌, ◌*◌}
use mathlib.Core.List.{List, [], ◌∷◌, ◌++◌}
use lib.Dec.{T}
use Rattle.choice.proofs.Rows.{Row, one, some, flag, hold}
use Rattle.text.specs.Texts.{bytes_of, leading, decimal}
use Rattle.decode.specs.Operands.{BR, RX, N1, NI, LABEL8}
use Rattle.line_operand.specs.declared.Place.TheVariants.{Upper, Base, Second}
use Rattle.line_operand.specs.Shapes.{unit_of, count_of, field_of, meets, shapes, shape_of}
use Rattle.line_operand.specs.Operands.{spell, omitted, piece}

pub rows : List Row
unfolding bytes_of leading decimal field_of meets shapes shape_of spell omitted piece
rows =
    -- fields::unit: the first bit of the place; what one is worth behind it
    one (unit_of Base) 256 8 1024
    -- fields::count: the largest number instead of how many there are; that of eight bits
    ∷ one (count_of Upper) 16 15 256
    -- fields::in_second: bits 6 and 7 are said to be in the second word; the second word is not
    ∷ one (flag (meets Base Second) + 2 * flag (meets Second Second)) 2 3 0
    -- shapes::shape_of: base registers are numbered from 0; the count of a shift is held as it is
    ∷ some ((shape_of BR).low ∷ (shape_of N1).low ∷ []) (12 ∷ 1 ∷ []) (0 ∷ 1 ∷ []) (12 ∷ 0 ∷ [])
    -- print::put_operand: an index of 0 is shown; a constant is shown without its bias
    ∷ some (piece (shape_of RX) 44 0x8210 ++ piece (shape_of NI) 44 0x823F) (bytes_of ",16") (bytes_of ",R0,16") (bytes_of ",15")
    -- print::put_operand: a negative displacement without its sign; as a number of eight bits
    ∷ some (piece (shape_of LABEL8) 32 0x74FE) (bytes_of " -2") (bytes_of " 2") (bytes_of " 254")
    ∷ []

pub rows-hold : T (hold rows)
unfolding rows bytes_of leading decimal field_of meets shapes shape_of spell omitted piece
rows-hold = tt
