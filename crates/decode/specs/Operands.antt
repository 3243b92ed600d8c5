-- The operands that the boxes of section 5 show, by a number for each: a register, a number or a word, where it stands in the instruction and what its field
-- holds. Names that a page prints for the same thing have the same number. 0 is no operand. Assumes nothing.
use Rattle.std.specs.Prelude.{ℕ}

-- a general register in bits 8 to 11, and in bits 12 to 15
abbrev pub RA : ℕ
RA = 1

abbrev pub RB : ℕ
RB = 2

-- a base register: bits 6 and 7 hold its number less 12 (4.3.9)
abbrev pub BR : ℕ
BR = 3

-- an index register in bits 12 to 15; 0 is no index (4.3.3)
abbrev pub RX : ℕ
RX = 4

-- a number in bits 8 to 11: of a bit (5.3 to 5.6), of registers less one (5.40, 5.50), a constant (5.46); a condition (5.24)
abbrev pub N : ℕ
N = 5

abbrev pub C : ℕ
C = 5

-- a number from 1 to 16, of which bits 8 to 11 hold one less: the count of a shift (5.10 to 5.17), the amount of INCM and DECM (5.56, 5.64)
abbrev pub N1 : ℕ
N1 = 6

-- a number in bits 12 to 15: that of BEX (5.30)
abbrev pub N12 : ℕ
N12 = 7

-- a constant from 1 to 16, of which bits 12 to 15 hold one less, written without its sign (4.3.7)
abbrev pub NI : ℕ
NI = 8

-- the displacement from a base register, bits 8 to 15 (4.3.9)
abbrev pub DSPL : ℕ
DSPL = 9

-- a label near the branch: the displacement from -128 to 127, bits 8 to 15 in two's complement (4.3.8)
abbrev pub LABEL8 : ℕ
LABEL8 = 10

-- the second word: an address, a label, a command, data
abbrev pub ADDR : ℕ
ADDR = 11

abbrev pub LABEL : ℕ
LABEL = 11

abbrev pub CMD : ℕ
CMD = 11

abbrev pub DATA : ℕ
DATA = 11

-- bits 8 to 11, and bits 12 to 15, which the page prints as zero: not looked at
abbrev pub Z8 : ℕ
Z8 = 12

abbrev pub Z12 : ℕ
Z12 = 13
