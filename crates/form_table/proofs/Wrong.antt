-- Two wrong answers of each contract that other crates call, each beside the right one, which the checker computes. Assumes nothing.
use Prim.Native.Nat.{ℕ, ◌+◌, ◌/◌, ◌%◌}
use mathlib.Core.List.{List, [], ◌∷◌}
use lib.Dec.{T}
use lib.ListN.{get_or}
use Rattle.choice.specs.Table.{table_of}
use Rattle.choice.proofs.Rows.{Row, one, some, hold}
use Rattle.page.specs.Spans.{wrapped}
use Rattle.decode.specs.Decode.{decode_of}
use Rattle.machine.specs.declared.Instruction.{Instruction}
use Rattle.isa.proofs.OpenDecoder.{decoder}
use Rattle.isa.proofs.OpenInstructions.{instructions}
use Rattle.form_table.specs.FormNumbers.{exceptions, path_of, need_of, rule_of, counts_of, number_of, numbers, read_start, write_start}

-- each register holds 1000 and its number
abbrev regs : List ℕ
regs = table_of (λ k. 0x1000 + k) 0 16

-- URS of R3 and SJS of R4, with other fields in their second words
abbrev urs : Instruction
urs = record { ic = 0x0100; form = 0x1025; first = 0x7F30; second = 0x0050; address = 0x0300 }

abbrev sjs : Instruction
sjs = record { ic = 0x0100; form = 0x2624; first = 0x7E40; second = 0x0200; address = 0x0200 }

-- the words that DL, L, ST and DST read, and those that they write
abbrev reads : List ℕ
reads = counts_of 0x2627 % 4 ∷ counts_of 0x2626 % 4 ∷ counts_of 0x262D % 4 ∷ counts_of 0x2630 % 4 ∷ []

abbrev writes : List ℕ
writes = counts_of 0x2627 / 4 % 4 ∷ counts_of 0x2626 / 4 % 4 ∷ counts_of 0x262D / 4 % 4 ∷ counts_of 0x2630 / 4 % 4 ∷ []

pub rows : List Row
unfolding decoder instructions exceptions path_of need_of rule_of counts_of number_of numbers read_start write_start wrapped
rows =
    -- table: one word read by DL; a word read by AR, whose operand is in a register
    some (get_or numbers 0x86 0 ∷ get_or numbers 0xA1 0 ∷ []) (0x01022627 ∷ 0x00801137 ∷ []) (0x01012627 ∷ 0x00801137 ∷ []) (0x01022627 ∷ 0x00811137 ∷ [])
    -- decode_with: the extension read from bits 12 to 15; the first word illegal
    ∷ one (number_of (decode_of 0x4012)) 0x01021327 0x0184132D 0
    -- read_start: URS reads at the register that a second word names; SJS reads at its register in place of URS
    ∷ some (read_start regs urs ∷ read_start regs sjs ∷ []) (0x1003 ∷ 0x0200 ∷ []) (0x1005 ∷ 0x0200 ∷ []) (0x0300 ∷ 0x1004 ∷ [])
    -- read_count: no operation reads more than one word, and one of two words reads none; as many words are read as are written
    ∷ some reads (2 ∷ 1 ∷ 0 ∷ 0 ∷ []) (0 ∷ 1 ∷ 0 ∷ 0 ∷ []) (0 ∷ 0 ∷ 1 ∷ 2 ∷ [])
    -- write_start: URS writes below its register in place of SJS; SJS writes two words below its register
    ∷ some (write_start regs urs ∷ write_start regs sjs ∷ []) (0x0300 ∷ 0x1003 ∷ []) (0x1002 ∷ 0x0200 ∷ []) (0x0300 ∷ 0x1002 ∷ [])
    -- write_count: as many words are written as are read; the number of words written is half of what it should be
    ∷ some writes (0 ∷ 0 ∷ 1 ∷ 2 ∷ []) (2 ∷ 1 ∷ 0 ∷ 0 ∷ []) (0 ∷ 0 ∷ 0 ∷ 1 ∷ [])
    ∷ []

pub rows-hold : T (hold rows)
unfolding rows decoder instructions exceptions path_of need_of rule_of counts_of number_of numbers read_start write_start wrapped
rows-hold = tt
