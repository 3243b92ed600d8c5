-- Wrong answers of `print` and `read` beside the right one, which the checker computes. Assumes nothing.
use mathlib.Core.List.{List, [], ◌∷◌}
use lib.Dec.{T}
use Rattle.choice.proofs.Rows.{Row, some, hold}
use Rattle.text.specs.Texts.{bytes_of}
use Rattle.line.specs.Lines.{line_of, read_line, read_number}
use Rattle.line.proofs.Known.{lines, words_in}

pub rows : List Row
unfolding lines
rows =
    -- print: a count is printed without its bias; an index of 0 is printed
    some (line_of 0xA3F0 0x0100) (bytes_of "INCM 16,0100") (bytes_of "INCM 15,0100") (bytes_of "INCM 16,0100,R0")
    -- line: the operands are left out; a comma stands before the first operand
    ∷ some (line_of 0x823F 0) (bytes_of "LISP R3,16") (bytes_of "LISP") (bytes_of "LISP,R3,16")
    -- print: a field that the page prints as zero is shown; the second word of an instruction of one word is shown
    ∷ some (line_of 0x77A3 0x1234) (bytes_of "BEX 3") (bytes_of "BEX 10,3") (bytes_of "BEX 3,1234")
    -- read: index R0 is accepted; an operand outside its field comes before one of another form
    ∷ some (read_number (read_line (bytes_of "L R1,0100,R0")) ∷ read_number (read_line (bytes_of "LISP R16,x")) ∷ []) (15 ∷ 15 ∷ []) (0 ∷ 15 ∷ []) (15 ∷ 16 ∷ [])
    -- read: a decimal of 20 digits wraps; a bias is not taken off
    ∷ some (read_number (read_line (bytes_of "LISP R18446744073709551619,1")) ∷ words_in (read_line (bytes_of "LISP R3,16"))) (16 ∷ 0x823F ∷ []) (0 ∷ 0x823F ∷ []) (16 ∷ 0x8230 ∷ [])
    -- read: a blank behind a mnemonic without operands is accepted; the misprint NSR is known
    ∷ some (read_number (read_line (bytes_of "NOP ")) ∷ read_number (read_line (bytes_of "NSR R1,R2")) ∷ []) (15 ∷ 14 ∷ []) (0 ∷ 14 ∷ []) (15 ∷ 0 ∷ [])
    ∷ []

pub rows-hold : T (hold rows)
unfolding rows lines
rows-hold = tt
