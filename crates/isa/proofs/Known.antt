-- Known instructions, each run as one step of the machine against the definitions: rows of one table that the checker computes. Every part of the machine after the step is
-- compared: what a row does not name is as it was before. Assumes nothing.
use Prim.Native.Nat.{ℕ, ◌*◌}
use mathlib.Core.Bool.{Bool}
use mathlib.Core.List.{List, [], ◌∷◌, ◌++◌}
use lib.Dec.{T}
use lib.ListN.{replicate, set}
use Rattle.choice.specs.Table.{table_of}
use Rattle.choice.proofs.Rows.{all_of}
use Rattle.machine.specs.declared.State.{State}
use Rattle.machine.specs.Machine.{Machine, machine}
use Rattle.machine.specs.State.{with_core, with_pi}
use Rattle.machine.specs.Step.{step}
use Rattle.machine.specs.Runs.{steps}
use Rattle.machine.proofs.Opened.{machinery}
use Rattle.machine.proofs.Samples.{reset_pages, hundreds, state_at, steps_on, same_machine}
use Rattle.isa.specs.Mil1750.{mil1750}
use Rattle.isa.proofs.OpenWords.{words}
use Rattle.isa.proofs.OpenFloats.{floats}
use Rattle.isa.proofs.OpenDecoder.{decoder}
use Rattle.isa.proofs.OpenInstructions.{instructions}

-- an instruction, R0 to R3 before it, and R0 to R3, CS and PI after it
pub record Row : Type 0 where
  pub instruction : ℕ
  pub before : List ℕ
  pub after : List ℕ
  pub cs : ℕ
  pub pi : ℕ

abbrev pub row : ℕ → List ℕ → List ℕ → ℕ → ℕ → Row
row i b a c p = record { instruction = i; before = b; after = a; cs = c; pi = p }

abbrev pub four : ℕ → ℕ → ℕ → ℕ → List ℕ
four a b c d = a ∷ b ∷ c ∷ d ∷ []

unfoldable pub rows : List Row
rows =
    row 0x823F (four 0 0 0 0) (four 0 0 0 0x0010) 4 0 ∷  -- LISP R3,16
    row 0x8330 (four 0 0 0 0) (four 0 0 0 0xFFFF) 1 0 ∷  -- LISN R3,1
    row 0xB412 (four 0 0 0x8000 0) (four 0 0x8000 0x8000 0) 1 0x0800 ∷  -- NEG R1,R2
    row 0xB702 (four 0 0 0 1) (four 0xFFFF 0xFFFF 0 1) 1 0 ∷  -- DSR R0,R2
    row 0xB702 (four 0x8000 0 0 1) (four 0x7FFF 0xFFFF 0 1) 12 0x0800 ∷
    row 0xC112 (four 0 0x0100 0x0100 0) (four 0 0 0x0100 0) 2 0x0800 ∷  -- MSR R1,R2
    row 0xC112 (four 0 0xFFFF 0x8000 0) (four 0 0x8000 0x8000 0) 1 0x0800 ∷
    row 0xB902 (four 0x4000 0x0001 0x7FFF 0xFF00) (four 0x4000 0x00EB 0x7FFF 0xFF00) 4 0 ∷  -- FSR R0,R2
    row 0xB902 (four 0 0 0x4000 0x00FF) (four 0x8000 0x00FE 0x4000 0x00FF) 1 0 ∷
    row 0xBC02 (four 0 0 0x4000 0x0000) (four 0x8000 0x00FF 0x4000 0x0000) 1 0 ∷  -- FNEG R0,R2
    row 0xBC02 (four 0 0 0x8000 0x007F) (four 0x7FFF 0xFF7F 0x8000 0x007F) 4 0x1000 ∷
    row 0xBC02 (four 0 0 0x4000 0x0080) (four 0 0 0x4000 0x0080) 2 0x0200 ∷
    []

-- n numbers from k on: what is in R4 to R15, in the words after the instruction and in the ports, so that a change shows
abbrev pub numbers : ℕ → ℕ → List ℕ
numbers k n = table_of (λ i. i) k n

-- R0 to R3, IC and SW, the others as above
abbrev pub state_of : List ℕ → ℕ → ℕ → State
state_of few ic sw = state_at (few ++ numbers 4 12) ic sw

abbrev pub pending : State → ℕ → State
pending s pi = with_core s (with_pi s.core pi)

abbrev pub holding : Row → State → Machine
holding r s = machine s (r.instruction ∷ numbers 1 4095) reset_pages (numbers 0 1024)

-- the machine after one step: at the next instruction and without a fault; of SW CS alone is not 0, and counter and timers have run on
unfoldable pub right : Row → Bool
right r =
    let x = step mil1750 hundreds (holding r (state_of r.before 0 0)) in
    same_machine x (holding r (steps_on 1 (pending (state_of r.after 1 (4096 * r.cs)) r.pi)))

pub rows-hold : T (all_of right rows)
unfolding words floats decoder machinery instructions right rows
rows-hold = tt

-- the program's example: 1,000 steps of 823F 7900 on 16,384 words after reset
abbrev pub example_at : State → Machine
example_at s = machine s (0x823F ∷ 0x7900 ∷ replicate 16382 0) reset_pages (replicate 1024 0)

unfoldable pub example : Machine
example = steps mil1750 hundreds 1000 (example_at (state_at (replicate 16 0) 0 0))

pub example-holds : T (same_machine example (example_at (steps_on 1000 (state_at (set (replicate 16 0) 3 16) 1 0x4000))))
unfolding words floats decoder machinery instructions example
example-holds = tt
