-- What an operation needs, as one number: the words that it reads and writes, whether it is one of the few that have them elsewhere or on blocks, and its path, where it
-- has one of its own. The form number of an instruction: its form, and above it what it needs.
-- Assumes nothing.
use Rattle.std.specs.Prelude.{ℕ, ◌+◌, ◌*◌, ◌/◌, ◌%◌, cond, List, [], ◌∷◌, eqb}
use Rattle.choice.specs.Select.{select}
use Rattle.choice.specs.Table.{table_of}
use Rattle.decode.specs.Forms.{mode_of, operation_of}
use Rattle.decode.specs.Decode.{form_of}
use Rattle.page.specs.Spans.{wrapped}
use Rattle.machine.specs.declared.Instruction.{Instruction}
use Rattle.isa.specs.Fields.{field_a, register}
use Rattle.isa.specs.Addressing.{in_memory}
use Rattle.isa.specs.Accesses.{words_read, words_written}

-- 16: URS, one word read at a register. 32: SJS, one word written below a register. 64: LM POPM MOV STM PSHM XWR, on blocks.
unfoldable pub exceptions : List (ℕ × ℕ)
exceptions =
    (37, 16) ∷
    (36, 32) ∷
    (40, 64) ∷ (44, 64) ∷ (47, 64) ∷ (50, 64) ∷ (54, 64) ∷ (90, 64) ∷
    []

-- ---- paths: the fast ones of the most frequent operations, from 1 to 5, and those of the operations that are no user's

-- no path of its own
abbrev pub no_path : ℕ
no_path = 0

-- L A S OR AND: one word into the accumulator
abbrev pub word_path : ℕ
word_path = 1

-- DL DA DS: two words
abbrev pub double_path : ℕ
double_path = 2

-- ST STC: one word stored
abbrev pub store_path : ℕ
store_path = 3

-- JC BR BEZ BLT BLE BGT BNZ BGE: on by CS
abbrev pub branch_path : ℕ
branch_path = 4

-- DST: two words stored
abbrev pub pair_path : ℕ
pair_path = 5

abbrev pub xio_path : ℕ
xio_path = 6

abbrev pub bex_path : ℕ
bex_path = 7

abbrev pub lst_path : ℕ
lst_path = 8

-- the path of an operation
unfoldable pub path_of : ℕ → ℕ
path_of operation =
    select operation
    ((38, word_path) ∷ (55, word_path) ∷ (63, word_path) ∷ (81, word_path) ∷ (82, word_path) ∷
    (39, double_path) ∷ (59, double_path) ∷ (67, double_path) ∷
    (45, store_path) ∷ (46, store_path) ∷
    (24, branch_path) ∷ (27, branch_path) ∷ (28, branch_path) ∷ (29, branch_path) ∷ (31, branch_path) ∷ (32, branch_path) ∷ (33, branch_path) ∷ (34, branch_path) ∷
    (48, pair_path) ∷
    (1, xio_path) ∷
    (30, bex_path) ∷
    (35, lst_path) ∷
    [])
    no_path

-- the words read at the derived address, 4 times the words written there, the exception's number, and 128 times the path
unfoldable pub need_of : ℕ → ℕ
need_of operation = words_read operation + 4 * words_written operation + select operation exceptions 0 + 128 * path_of operation

-- the words that an instruction of a form reads, plus 4 times those that it writes: at its derived address only where the mode has its operand in memory
unfoldable pub counts_of : ℕ → ℕ
counts_of form = select (operation_of form) ((37, 1) ∷ (36, 4) ∷ []) (cond (in_memory (mode_of form)) (need_of (operation_of form) % 16) 0)

-- the rule by which the code carries an operation out: its path from 1 to 8, 9 for those on blocks, 10 for any other
unfoldable pub rule_of : ℕ → ℕ
rule_of operation = cond (eqb (path_of operation) 0) (cond (eqb (need_of operation / 64 % 2) 1) 9 10) (path_of operation)

-- the form number: the form; above it these words, 16 more for URS and 32 more for SJS; and above them the rule, so that the ranges of the number are the rules
unfoldable pub number_of : ℕ → ℕ
number_of form = 0x800000 * rule_of (operation_of form) + 65536 * (need_of (operation_of form) / 16 % 4 * 16 + counts_of form) + form

-- the table: the form numbers of the 256 opcodes
unfoldable pub numbers : List ℕ
numbers = table_of (λ op. number_of (form_of op)) 0 256

-- where the words read start, and those written: URS at a register, SJS below one, any other at the derived address. An operation on blocks has its own spans,
-- and is not asked for these
unfoldable pub read_start : List ℕ → Instruction → ℕ
read_start regs n = cond (eqb (operation_of n.form) 37) (register regs (field_a n.first)) n.address

unfoldable pub write_start : List ℕ → Instruction → ℕ
write_start regs n = cond (eqb (operation_of n.form) 36) (wrapped (register regs (field_a n.first) + 65535)) n.address
