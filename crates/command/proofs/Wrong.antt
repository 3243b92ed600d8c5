-- Two wrong answers of each contract that other crates call, beside the right one, which the checker computes. Assumes nothing.
use Prim.Native.Nat.{ℕ}
use mathlib.Core.Bool.{false}
use mathlib.Core.List.{List, [], ◌∷◌}
use lib.Dec.{T}
use lib.ListN.{get_or, replicate}
use Rattle.choice.proofs.Rows.{Row, some, hold, flag}
use Rattle.machine.specs.declared.State.{State}
use Rattle.machine.specs.declared.Instruction.{Instruction}
use Rattle.machine.specs.State.{with_clock, with_rem_b, with_tb_on}
use Rattle.machine.specs.Machine.{Supervised, done, refused}
use Rattle.machine.proofs.Opened.{machinery}
use Rattle.machine.proofs.Samples.{state_at}
use Rattle.isa.proofs.OpenInstructions.{instructions}
use Rattle.isa.specs.Commands.{is_timer, timer_command, transferred}

-- R1 holds 7
abbrev s : State
s = state_at (0 ∷ 7 ∷ replicate 14 0) 0x00FF 0

-- XIO R1 with the command WOPR of page register 2
abbrev n : Instruction
n = record { ic = 0x00FF; form = 0x2801; first = 0x4810; second = 0x5202; address = 0x5202 }

-- IC, and the page registers 2, 257 and 258; a refusal
abbrev shown : Supervised → List ℕ
shown (done r) = r.state.core.ic ∷ get_or r.pages 2 0 ∷ get_or r.pages 257 0 ∷ get_or r.pages 258 0 ∷ []
shown (refused b) = b.ft ∷ b.mfs ∷ []

pub rows : List Row
unfolding machinery instructions
rows =
    -- transfer: WOPR of the page register before; WOPR to the instruction set
    some (shown (transferred s (replicate 512 0) (replicate 1024 0) n)) (0x0101 ∷ 0 ∷ 0 ∷ 7 ∷ []) (0x0101 ∷ 0 ∷ 7 ∷ 0 ∷ []) (0x0101 ∷ 7 ∷ 0 ∷ 0 ∷ [])
    -- timers::is_timer: 400B as a timer command; ITB as none
    ∷ some (flag (is_timer 0x400B) ∷ flag (is_timer 0xC00E) ∷ []) (0 ∷ 1 ∷ []) (1 ∷ 1 ∷ []) (0 ∷ 0 ∷ [])
    -- timers::timer_command: OTB keeps its timer's remainder; OTB leaves timer B halted
    ∷ some (let t = (timer_command (with_clock s (with_rem_b (with_tb_on s.clock false) 5)) 1 0x400E).clock in t.ta ∷ t.tb ∷ t.remb ∷ flag t.tbon ∷ [])
    (0 ∷ 7 ∷ 0 ∷ 1 ∷ []) (0 ∷ 7 ∷ 5 ∷ 1 ∷ []) (0 ∷ 7 ∷ 0 ∷ 0 ∷ [])
    ∷ []

pub rows-hold : T (hold rows)
unfolding rows machinery instructions
rows-hold = tt
