-- Two wrong answers of each contract that other crates call, beside the right one, which the checker computes. Assumes nothing.
use Rattle.std.proofs.Common.{ℕ, ◌+◌, false, T, List, [], ◌∷◌, get_or, drop, set}
use Rattle.choice.specs.Table.{table_of}
use Rattle.choice.proofs.Rows.{Row, some, hold}
use Rattle.machine.specs.declared.Instruction.{Instruction}
use Rattle.machine.specs.State.{Processor, processor, cs_of}
use Rattle.machine.specs.Machine.{next_of}
use Rattle.machine.specs.Step.{affected}
use Rattle.machine.proofs.Opened.{machinery}
use Rattle.machine.proofs.Samples.{state_at}
use Rattle.isa.specs.Blocks.{rearranged, loaded_all, popped_all, moved_word, pushed_all}
use Rattle.isa.specs.Mil1750.{context_of}
use Rattle.isa.specs.Execute.{executed}
use Rattle.isa.proofs.OpenWords.{words}
use Rattle.isa.proofs.OpenInstructions.{instructions}

-- R0 to R15 hold 100 to 115, but R3 holds 8003; CS is P
abbrev p : Processor
p = processor (state_at (set (table_of (λ k. 100 + k) 0 16) 3 0x8003) 0x00FF 0x4000)

-- an instruction of a form with a first word
abbrev instruction : ℕ → ℕ → Instruction
instruction f w = record { ic = 0x00FF; form = f; first = w; second = 0; address = 0 }

-- IC, CS and the registers a, b and c of a processor
abbrev shown : ℕ → ℕ → ℕ → Processor → List ℕ
shown a b c q = q.core.ic ∷ cs_of q.core.sw ∷ get_or q.regs a 0 ∷ get_or q.regs b 0 ∷ get_or q.regs c 0 ∷ []

pub rows : List Row
unfolding words machinery instructions
rows =
    -- operation::proceed: on by one word of two; CS cleared
    some (shown 0 1 2 (affected p (rearranged (context_of p) p.regs (next_of (instruction 0x2632 0x9910)) (cs_of p.core.sw) [])))
    (0x0101 ∷ 4 ∷ 100 ∷ 101 ∷ 102 ∷ []) (0x0100 ∷ 4 ∷ 100 ∷ 101 ∷ 102 ∷ []) (0x0101 ∷ 0 ∷ 100 ∷ 101 ∷ 102 ∷ [])
    -- operation::load_multiple: one register too few; the registers from R1 on
    ∷ some (shown 0 1 2 (affected p (loaded_all (context_of p) (instruction 0x2628 0x8910) (drop 1 (6 ∷ 7 ∷ 8 ∷ 9 ∷ [])))))
    (0x0101 ∷ 4 ∷ 7 ∷ 8 ∷ 102 ∷ []) (0x0101 ∷ 4 ∷ 7 ∷ 101 ∷ 102 ∷ []) (0x0101 ∷ 4 ∷ 100 ∷ 7 ∷ 8 ∷ [])
    -- operation::pop_multiple: R15 gets its word; the word for R15 goes to R0
    ∷ some (shown 14 15 0 (affected p (popped_all (context_of p) (instruction 0x112C 0x8FE0) (drop 1 (6 ∷ 7 ∷ 8 ∷ 9 ∷ [])))))
    (0x0100 ∷ 4 ∷ 7 ∷ 118 ∷ 9 ∷ []) (0x0100 ∷ 4 ∷ 7 ∷ 8 ∷ 9 ∷ []) (0x0100 ∷ 4 ∷ 7 ∷ 118 ∷ 8 ∷ [])
    -- operation::move_word: on to the next instruction before the count is 0; the count raised
    ∷ some (shown 5 6 9 (affected p (moved_word (context_of p) (instruction 0x112F 0x9359) 7 false)))
    (0x00FF ∷ 4 ∷ 106 ∷ 105 ∷ 110 ∷ []) (0x0100 ∷ 4 ∷ 106 ∷ 105 ∷ 110 ∷ []) (0x00FF ∷ 4 ∷ 106 ∷ 107 ∷ 110 ∷ [])
    -- operation::push_multiple: R15 raised; R15 lowered by one
    ∷ some (shown 14 15 0 (affected p (pushed_all (context_of p) (instruction 0x1136 0x9FE0))))
    (0x0100 ∷ 4 ∷ 114 ∷ 112 ∷ 100 ∷ []) (0x0100 ∷ 4 ∷ 114 ∷ 118 ∷ 100 ∷ []) (0x0100 ∷ 4 ∷ 114 ∷ 114 ∷ 100 ∷ [])
    -- operation::rearrange: XWR with CS from RB's new contents; XWR with RA's old contents lost
    ∷ some (shown 2 3 4 (affected p (executed (context_of p) (instruction 0x115A 0xED23) [])))
    (0x0100 ∷ 1 ∷ 0x8003 ∷ 102 ∷ 104 ∷ []) (0x0100 ∷ 4 ∷ 0x8003 ∷ 102 ∷ 104 ∷ []) (0x0100 ∷ 1 ∷ 0x8003 ∷ 0x8003 ∷ 104 ∷ [])
    ∷ []

pub rows-hold : T (hold rows)
unfolding rows words machinery instructions
rows-hold = tt
