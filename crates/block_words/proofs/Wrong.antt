-- Two wrong answers of each contract that other crates call, beside the right one, which the checker computes. Assumes nothing.
use Prim.Native.Nat.{ℕ, ◌+◌}
use mathlib.Core.List.{List, [], ◌∷◌}
use lib.Dec.{T}
use lib.ListN.{replicate}
use Rattle.choice.specs.Table.{table_of}
use Rattle.choice.proofs.Rows.{Row, one, some, hold}
use Rattle.page.specs.Spans.{words_of}
use Rattle.machine.specs.declared.Instruction.{Instruction}
use Rattle.machine.specs.State.{Processor, processor}
use Rattle.machine.specs.Step.{stored}
use Rattle.machine.proofs.Opened.{machinery}
use Rattle.machine.proofs.Samples.{state_at}
use Rattle.isa.specs.Accesses.{reads_of, writes_of}
use Rattle.isa.specs.Blocks.{pushed_word}
use Rattle.isa.specs.Mil1750.{context_of}
use Rattle.isa.specs.Execute.{executed}
use Rattle.isa.proofs.OpenWords.{words}
use Rattle.isa.proofs.OpenInstructions.{instructions}

-- R0 to R15 hold 100 to 115
abbrev p : Processor
p = processor (state_at (table_of (λ k. 100 + k) 0 16) 0 0)

-- every page register is 0
abbrev g : List ℕ
g = replicate 512 0

-- STM of R0 to R2 from address 1 on
abbrev n : Instruction
n = record { ic = 0x0100; form = 0x2632; first = 0x9920; second = 1; address = 1 }

pub rows : List Row
unfolding words machinery instructions
rows =
    -- block: STM of one register too few; STM from the word before the address on
    some (stored p.core (replicate 5 0) g (executed (context_of p) n (words_of 0 0 g 5 (reads_of p.regs n) (replicate 5 0))) (writes_of p.regs n))
    (0 ∷ 100 ∷ 101 ∷ 102 ∷ 0 ∷ []) (0 ∷ 100 ∷ 101 ∷ 0 ∷ 0 ∷ []) (100 ∷ 101 ∷ 102 ∷ 0 ∷ 0 ∷ [])
    -- stores::pushed_word: R15 as it was before PSHM; R15 as it is after one word too few
    ∷ one (pushed_word p.regs 15 2) 112 115 113
    ∷ []

pub rows-hold : T (hold rows)
unfolding rows words machinery instructions
rows-hold = tt
