-- Known lines, as rows of one table that the checker computes from the definitions. Assumes nothing.
use Prim.Native.Nat.{ℕ}
use Prim.Native.String.{String}
use mathlib.Core.Bool.{Bool, ◌&&◌}
use mathlib.Core.List.{List, [], ◌∷◌}
use lib.Dec.{eqb, T}
use Rattle.choice.proofs.Rows.{all_of}
use Rattle.text.specs.Texts.{bytes_of, digit, hex, leading, decimal, digit_of, word_by, word_of}
use Rattle.decode.specs.Pages.{pages}
use Rattle.line_operand.specs.Numerals.{digits, value, plain, numeral, before, onward}
use Rattle.line_operand.specs.Shapes.{field_of, meets, covers, shapes, shape_of}
use Rattle.line_operand.specs.Operands.{spell, omitted, piece, sep_after, tail, inside, ranged, marked, nonzero, negated, labelled, word_in, worded, taken_as, placed, taken, joined, hidden, optional, sum_after, rest_after, finished, reads}
use Rattle.line_table.specs.Boxes.{same_text, named, box_of, box_named}
use Rattle.std.proofs.Common.{Ok, Err}
use Rattle.line.specs.declared.Words.{Words}
use Rattle.line.specs.declared.Words.TheVariants.{One, Two}
use Rattle.line.specs.Lines.{line_by, Answer, line_of, refusal_of, words_from, read_by, read_line, read_number}

-- opens every definition of lines at once
unfoldable pub lines : Unit {0}
unfolding bytes_of digit hex leading decimal digit_of word_by word_of pages digits value plain numeral before onward field_of meets covers shapes shape_of spell omitted piece sep_after tail inside ranged marked nonzero negated labelled word_in worded taken_as placed taken joined hidden optional sum_after rest_after finished reads same_text named box_of box_named line_by line_of refusal_of words_from read_by read_line read_number
lines = tt

-- words and their line, both ways; the line of two words; a refusal and its line; a word without a line
pub data Row : Type 0 where
  alike : Words → String → Row
  prints : ℕ → ℕ → String → Row
  refused : ℕ → String → Row
  illegal : ℕ → Row

-- the words of an answer, and none of a refusal
abbrev pub words_in : Answer → List ℕ
words_in (Ok (One w)) = w ∷ []
words_in (Ok (Two w v)) = w ∷ v ∷ []
words_in (Err e) = []

-- the line that words print as, those of one word with any second word
abbrev line_for : Words → List ℕ
line_for (One w) = line_of w 0xABCD
line_for (Two w v) = line_of w v

abbrev right : Row → Bool
right (alike p s) = same_text (words_in (read_line (bytes_of s))) (words_in (Ok p)) && same_text (line_for p) (bytes_of s)
right (prints w v s) = same_text (line_of w v) (bytes_of s)
right (refused n s) = eqb (read_number (read_line (bytes_of s))) n
right (illegal w) = same_text (line_of w 0) []

pub rows : List Row
rows =
    alike (One 0x823F) "LISP R3,16" ∷
    alike (One 0x8330) "LISN R3,1" ∷
    alike (One 0xC3F0) "MISN R15,1" ∷
    alike (One 0x60F5) "SLL R5,16" ∷
    alike (One 0x6005) "SLL R5,1" ∷
    alike (One 0x5135) "SBR 3,R5" ∷
    alike (One 0x5A35) "SVBR R3,R5" ∷
    alike (One 0x6A35) "SLR R3,R5" ∷
    alike (Two 0x50F2 0x1234) "SB 15,1234,R2" ∷
    alike (Two 0x50F0 0x1234) "SB 15,1234" ∷
    alike (Two 0xA3F0 0x0100) "INCM 16,0100" ∷
    alike (Two 0xA300 0x0100) "INCM 1,0100" ∷
    alike (Two 0x8930 0x2000) "LM 3,2000" ∷
    alike (Two 0x9100 0x0200) "STC 0,0200" ∷
    alike (Two 0x4810 0x2000) "XIO R1,2000" ∷
    alike (Two 0x4812 0x2000) "XIO R1,2000,R2" ∷
    alike (Two 0x853A 0xBEEF) "LIM R3,BEEF,R10" ∷
    alike (Two 0x4A3B 0x00FF) "NIM R3,00FF" ∷
    alike (Two 0x4A31 0x0005) "AIM R3,0005" ∷
    alike (Two 0x7070 0x00AB) "JC 7,00AB" ∷
    alike (Two 0x71F1 0xFFFF) "JCI 15,FFFF,R1" ∷
    alike (Two 0x7310 0x0100) "SOJ R1,0100" ∷
    alike (One 0x7480) "BR -128" ∷
    alike (One 0x74FF) "BR -1" ∷
    alike (One 0x7400) "BR 0" ∷
    alike (One 0x797F) "BGT 127" ∷
    alike (One 0x0000) "LB R12,0" ∷
    alike (One 0x3FFF) "FCB R15,255" ∷
    alike (One 0x1680) "SBB R14,128" ∷
    alike (One 0x4310) "DLBX R15" ∷
    alike (One 0x4317) "DLBX R15,R7" ∷
    alike (One 0x40E1) "ANDX R12,R1" ∷
    alike (One 0x40FF) "ORBX R12,R15" ∷
    alike (One 0x4033) "DSTX R12,R3" ∷
    alike (One 0x4290) "FSBX R14" ∷
    prints 0x7D5A 0x1000 "LST 1000,R10" ∷
    alike (Two 0x7D0A 0x1000) "LST 1000,R10" ∷
    prints 0x77A3 0 "BEX 3" ∷
    alike (One 0x7703) "BEX 3" ∷
    prints 0x7F3C 0 "URS R3" ∷
    alike (One 0x7F30) "URS R3" ∷
    prints 0xEC5F 0 "XBR R5" ∷
    alike (One 0xEC50) "XBR R5" ∷
    prints 0x823F 0xFFFF "LISP R3,16" ∷
    alike (One 0xFF00) "NOP" ∷
    alike (One 0xFFFF) "BPT" ∷
    illegal 0xFF0F ∷
    illegal 0x4A30 ∷
    illegal 0x4A3C ∷
    illegal 0x4400 ∷
    illegal 0x9500 ∷
    refused 14 "" ∷
    refused 14 " NOP" ∷
    refused 14 "nop" ∷
    refused 14 "NOP\n" ∷
    refused 14 "STZ 1000" ∷
    refused 14 "SDR 1,R2" ∷
    refused 14 "XYZ R99" ∷
    refused 14 "LISP\tR3,16" ∷
    refused 15 "NOP " ∷
    refused 15 "NOP R1" ∷
    refused 15 "LISP" ∷
    refused 15 "LISP " ∷
    refused 15 "LISP R3" ∷
    refused 15 "LISP R3,-1" ∷
    refused 15 "LISP R03,1" ∷
    refused 15 "LISP r3,1" ∷
    refused 15 "LISP R3, 1" ∷
    refused 15 "LISP  R3,1" ∷
    refused 15 "LISP R3,1," ∷
    refused 15 "LISP R16,x" ∷
    refused 15 "L R1,100" ∷
    refused 15 "L R1,01000" ∷
    refused 15 "L R1,00ab" ∷
    refused 15 "L R1,0100,R0" ∷
    refused 15 "L R16,0100,R0" ∷
    refused 15 "LBX R12,R0" ∷
    refused 15 "AIM R1,0001,R2" ∷
    refused 15 "BR -0" ∷
    refused 15 "BR 0128" ∷
    refused 15 "BR +1" ∷
    refused 15 "BR -" ∷
    refused 15 "LB R12,-1" ∷
    refused 15 "JC LT,0100" ∷
    refused 15 "JS R1,256" ∷
    refused 16 "LISP R3,0" ∷
    refused 16 "LISP R3,17" ∷
    refused 16 "LISP R16,1" ∷
    refused 16 "SLL R1,0" ∷
    refused 16 "SB 16,0100" ∷
    refused 16 "JC 16,0100" ∷
    refused 16 "LM 16,0100" ∷
    refused 16 "BEX 16" ∷
    refused 16 "BR 128" ∷
    refused 16 "BR -129" ∷
    refused 16 "LB R11,0" ∷
    refused 16 "LB R0,0" ∷
    refused 16 "LB R12,256" ∷
    refused 16 "L R1,0100,R16" ∷
    refused 16 "LISP R3,99999999999999999999" ∷
    refused 16 "LISP R18446744073709551619,1" ∷
    illegal 0x4912 ∷
    refused 14 "VIO R1,0100" ∷
    prints 0x4800 0x4000 "XIO R0,4000" ∷
    []

pub rows-hold : T (all_of right rows)
unfolding rows lines
rows-hold = tt
