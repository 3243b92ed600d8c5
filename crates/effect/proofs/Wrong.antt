-- Two wrong answers of each contract that other crates call, each beside the right one, which the checker computes. Assumes nothing.
use Rattle.std.proofs.Common.{ℕ, ◌+◌, ◌%◌, true, false, T, List, [], ◌∷◌, ◌++◌, get_or}
use Rattle.choice.specs.Table.{table_of}
use Rattle.choice.proofs.Rows.{Row, one, some, hold}
use Rattle.word.specs.Pair.{high_word, low_word}
use Rattle.word.specs.Status.{status}
use Rattle.page.specs.Spans.{wrapped}
use Rattle.machine.specs.declared.Instruction.{Instruction}
use Rattle.machine.specs.State.{cs_of}
use Rattle.machine.specs.Machine.{Effect, next_of}
use Rattle.isa.specs.Effects.{Context, fixed_overflow, float_faults, effect, into_registers, single, double, loaded, tested, stored, modified, replaced, nothing}
use Rattle.isa.proofs.OpenInstructions.{instructions}
use Rattle.effect.specs.declared.Registers.TheVariants.{Two}
use Rattle.effect.specs.declared.Work.{Work}
use Rattle.effect.specs.Work.{context, filled}

-- R0 has 1000, R1 has 1001, and so on
abbrev regs : List ℕ
regs = table_of (λ k. 0x1000 + k) 0 16

-- CS is Z, PS is 3, and PI bit 15 is set
abbrev before : Context
before = context regs 0x2030 0x0001

-- at 100, a first word of the form f with RA 1 and RB 2; the second word is 2F0, the derived address 300
abbrev coded : ℕ → Instruction
coded f = record { ic = 0x0100; form = f; first = 0x0012; second = 0x02F0; address = 0x0300 }

-- of two words, in memory; of one, in registers
abbrev long : Instruction
long = coded 0x2637

abbrev short : Instruction
short = coded 0x1103

-- values for R15 and R0
abbrev two_from15 : Work
two_from15 = record { registers = Two 15 1 2; ic = 0; cs = 0; pi = 0; words = 0 ∷ 0 ∷ 0 ∷ [] }

-- three registers from k on
abbrev three_from : ℕ → List ℕ → List ℕ
three_from k rs = get_or rs (k % 16) 0 ∷ get_or rs ((k + 1) % 16) 0 ∷ get_or rs ((k + 2) % 16) 0 ∷ []

-- IC, CS and PI after three registers from k on; after the words to store
abbrev kept : ℕ → Effect → List ℕ
kept k e = three_from k e.regs ++ (e.ic ∷ e.cs ∷ e.pi ∷ [])

abbrev put : Effect → List ℕ
put e = e.words ++ (e.ic ∷ e.cs ∷ e.pi ∷ [])

pub rows : List Row
unfolding high_word low_word status wrapped next_of cs_of instructions filled
rows =
    -- following: one word on after an instruction of two; no wrap after FFFF
    one (next_of (record { ic = 0xFFFF; form = 0x2637; first = 0; second = 0; address = 0 })) 1 0 0x10001
    -- cs_of: the reserved bits; CS without C
    ∷ one (cs_of 0x9A31) 9 0xA 1
    -- fixed_overflow: PI bit 3; PI bit 5
    ∷ one (fixed_overflow true) 0x0800 0x1000 0x0400
    -- float_faults: PI bit 4 at overflow; the bits of overflow and underflow exchanged
    ∷ some (float_faults true false ∷ float_faults false true ∷ []) (0x1000 ∷ 0x0200 ∷ []) (0x0800 ∷ 0x0200 ∷ []) (0x0200 ∷ 0x1000 ∷ [])
    -- apply: the value past R15 lost; a third value stored where there are two
    ∷ some (three_from 15 (filled regs two_from15)) (1 ∷ 2 ∷ 0x1001 ∷ []) (1 ∷ 0x1000 ∷ 0x1001 ∷ []) (1 ∷ 2 ∷ 3 ∷ [])
    -- shapes::effect: on to the next instruction; the old bits of PI lost
    ∷ some (put (effect before 1 (7 ∷ []) 0x0300 4 0x0800 (7 ∷ 8 ∷ 9 ∷ [])))
    (7 ∷ 8 ∷ 9 ∷ 0x0300 ∷ 4 ∷ 0x0801 ∷ [])
    (7 ∷ 8 ∷ 9 ∷ 0x0102 ∷ 4 ∷ 0x0801 ∷ [])
    (7 ∷ 8 ∷ 9 ∷ 0x0300 ∷ 4 ∷ 0x0800 ∷ [])
    -- shapes::into_registers: the old bits of PI lost; one word on after an instruction of two
    ∷ some (kept 1 (into_registers before long 1 (7 ∷ []) 4 0x0800))
    (7 ∷ 0x1002 ∷ 0x1003 ∷ 0x0102 ∷ 4 ∷ 0x0801 ∷ [])
    (7 ∷ 0x1002 ∷ 0x1003 ∷ 0x0102 ∷ 4 ∷ 0x0800 ∷ [])
    (7 ∷ 0x1002 ∷ 0x1003 ∷ 0x0101 ∷ 4 ∷ 0x0801 ∷ [])
    -- shapes::into_registers: the value past R15 lost; the values exchanged
    ∷ some (kept 15 (into_registers before long 15 (7 ∷ 8 ∷ []) 4 0))
    (7 ∷ 8 ∷ 0x1001 ∷ 0x0102 ∷ 4 ∷ 1 ∷ [])
    (7 ∷ 0x1000 ∷ 0x1001 ∷ 0x0102 ∷ 4 ∷ 1 ∷ [])
    (8 ∷ 7 ∷ 0x1001 ∷ 0x0102 ∷ 4 ∷ 1 ∷ [])
    -- shapes::into_registers: the third value lost; the second value twice
    ∷ some (kept 14 (into_registers before long 14 (7 ∷ 8 ∷ 9 ∷ []) 4 0))
    (7 ∷ 8 ∷ 9 ∷ 0x0102 ∷ 4 ∷ 1 ∷ [])
    (7 ∷ 8 ∷ 0x1000 ∷ 0x0102 ∷ 4 ∷ 1 ∷ [])
    (7 ∷ 8 ∷ 8 ∷ 0x0102 ∷ 4 ∷ 1 ∷ [])
    -- shapes::single: 8000 as positive; CS as it was
    ∷ some (kept 1 (single before long 1 0x8000))
    (0x8000 ∷ 0x1002 ∷ 0x1003 ∷ 0x0102 ∷ 1 ∷ 1 ∷ [])
    (0x8000 ∷ 0x1002 ∷ 0x1003 ∷ 0x0102 ∷ 4 ∷ 1 ∷ [])
    (0x8000 ∷ 0x1002 ∷ 0x1003 ∷ 0x0102 ∷ 2 ∷ 1 ∷ [])
    -- shapes::double: the words exchanged; CS of the second word
    ∷ some (kept 1 (double before long 1 0x00018000))
    (1 ∷ 0x8000 ∷ 0x1003 ∷ 0x0102 ∷ 4 ∷ 1 ∷ [])
    (0x8000 ∷ 1 ∷ 0x1003 ∷ 0x0102 ∷ 4 ∷ 1 ∷ [])
    (1 ∷ 0x8000 ∷ 0x1003 ∷ 0x0102 ∷ 1 ∷ 1 ∷ [])
    -- shapes::loaded: CS of the word; CS 0
    ∷ some (kept 1 (loaded before long 1 0x8000))
    (0x8000 ∷ 0x1002 ∷ 0x1003 ∷ 0x0102 ∷ 2 ∷ 1 ∷ [])
    (0x8000 ∷ 0x1002 ∷ 0x1003 ∷ 0x0102 ∷ 1 ∷ 1 ∷ [])
    (0x8000 ∷ 0x1002 ∷ 0x1003 ∷ 0x0102 ∷ 0 ∷ 1 ∷ [])
    -- shapes::modified: the old bits of PI lost; CS as it was
    ∷ some (put (modified before long 7 4 0x0800))
    (7 ∷ 0 ∷ 0 ∷ 0x0102 ∷ 4 ∷ 0x0801 ∷ [])
    (7 ∷ 0 ∷ 0 ∷ 0x0102 ∷ 4 ∷ 0x0800 ∷ [])
    (7 ∷ 0 ∷ 0 ∷ 0x0102 ∷ 2 ∷ 0x0801 ∷ [])
    -- shapes::tested: CS as it was; PI cleared
    ∷ some (put (tested before long 4))
    (0 ∷ 0 ∷ 0 ∷ 0x0102 ∷ 4 ∷ 1 ∷ [])
    (0 ∷ 0 ∷ 0 ∷ 0x0102 ∷ 2 ∷ 1 ∷ [])
    (0 ∷ 0 ∷ 0 ∷ 0x0102 ∷ 4 ∷ 0 ∷ [])
    -- shapes::stored: CS of the first word; the words from last to first
    ∷ some (put (stored before long 7 8 9))
    (7 ∷ 8 ∷ 9 ∷ 0x0102 ∷ 2 ∷ 1 ∷ [])
    (7 ∷ 8 ∷ 9 ∷ 0x0102 ∷ 4 ∷ 1 ∷ [])
    (9 ∷ 8 ∷ 7 ∷ 0x0102 ∷ 2 ∷ 1 ∷ [])
    -- shapes::replaced: the word in RA; the word in no register
    ∷ some (kept 1 (replaced before short 7))
    (0x1001 ∷ 7 ∷ 0x1003 ∷ 0x0101 ∷ 2 ∷ 1 ∷ [])
    (7 ∷ 0x1002 ∷ 0x1003 ∷ 0x0101 ∷ 2 ∷ 1 ∷ [])
    (0x1001 ∷ 0x1002 ∷ 0x1003 ∷ 0x0101 ∷ 2 ∷ 1 ∷ [])
    -- shapes::nothing: IC as it was; CS 0
    ∷ some (put (nothing before long))
    (0 ∷ 0 ∷ 0 ∷ 0x0102 ∷ 2 ∷ 1 ∷ [])
    (0 ∷ 0 ∷ 0 ∷ 0x0100 ∷ 2 ∷ 1 ∷ [])
    (0 ∷ 0 ∷ 0 ∷ 0x0102 ∷ 0 ∷ 1 ∷ [])
    ∷ []

pub rows-hold : T (hold rows)
unfolding rows high_word low_word status wrapped next_of cs_of instructions filled
rows-hold = tt
