-- Two wrong answers of each contract that other crates call, beside the right one, which the checker computes. Assumes nothing.
use Rattle.std.proofs.Common.{Result, Ok, Err}
use Prim.Native.Nat.{ℕ, ◌+◌}
use mathlib.Core.List.{List, [], ◌∷◌}
use lib.Dec.{T}
use lib.ListN.{replicate}
use Rattle.choice.specs.Table.{table_of}
use Rattle.choice.proofs.Rows.{Row, some, hold}
use Rattle.machine.specs.declared.Denial.{Denial}
use Rattle.machine.specs.declared.Instruction.{Instruction}
use Rattle.machine.specs.declared.State.{State}
use Rattle.machine.specs.State.{processor}
use Rattle.machine.specs.Instructions.{view, prepared}
use Rattle.machine.proofs.Opened.{machinery}
use Rattle.machine.proofs.Samples.{state_at}
use Rattle.isa.specs.Mil1750.{mil1750}
use Rattle.isa.proofs.OpenWords.{words}
use Rattle.isa.proofs.OpenDecoder.{decoder}
use Rattle.isa.proofs.OpenInstructions.{instructions}

-- R0 to R15 hold 100 to 115
abbrev s : State
s = state_at (table_of (λ k. 100 + k) 0 16) 1 0

-- at address 1 L R1 with the address 5 and the index register R2
abbrev memory : List ℕ
memory = 0 ∷ 0x8012 ∷ 5 ∷ 0 ∷ []

-- an instruction's form, words and address; a refusal and the IC after it
abbrev shown : Result Instruction Denial → List ℕ
shown (Ok n) = n.form ∷ n.first ∷ n.second ∷ n.address ∷ []
shown (Err d) = d.refusal.ft ∷ d.refusal.mfs ∷ d.ic ∷ []

pub rows : List Row
unfolding words decoder machinery instructions
rows =
    -- prepare: the index register left out; the register RA as index
    some (shown (prepared mil1750 (processor s) (view s.core memory (replicate 512 0))))
    (0x2626 ∷ 0x8012 ∷ 5 ∷ 107 ∷ []) (0x2626 ∷ 0x8012 ∷ 5 ∷ 5 ∷ []) (0x2626 ∷ 0x8012 ∷ 5 ∷ 106 ∷ [])
    ∷ []

pub rows-hold : T (hold rows)
unfolding rows words decoder machinery instructions
rows-hold = tt
