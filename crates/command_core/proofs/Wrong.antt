-- Two wrong answers of each contract that other crates call, beside the right one, which the checker computes. Assumes nothing.
use Prim.Native.Nat.{ℕ}
use mathlib.Core.Bool.{true, false}
use mathlib.Core.List.{List, [], ◌∷◌}
use lib.Dec.{T}
use Rattle.choice.proofs.Rows.{Row, one, some, hold, flag}
use Rattle.machine.specs.declared.Core.{Core}
use Rattle.machine.specs.declared.Instruction.{Instruction}
use Rattle.machine.specs.State.{with_sw, with_mk, with_pi, with_ft, with_mfs, with_enabled, with_hold}
use Rattle.machine.proofs.Opened.{machinery}
use Rattle.isa.specs.Commands.{resumed, pending_reset, status_loaded}

abbrev c : Core
c = record { ic = 0x00FF; sw = 0x2031; mk = 0x00FF; pi = 0x4400; faults = record { ft = 0x0080; mfs = 0xC005 }; enabled = false; hold = true }

-- LST, of two words
abbrev n : Instruction
n = record { ic = 0x00FF; form = 0x2623; first = 0x7D00; second = 1; address = 1 }

-- MK, SW and IC
abbrev status : Core → List ℕ
status t = t.mk ∷ t.sw ∷ t.ic ∷ []

-- PI, FT, the memory fault status and the hold mark
abbrev pending : Core → List ℕ
pending t = t.pi ∷ t.faults.ft ∷ t.faults.mfs ∷ flag t.hold ∷ []

pub rows : List Row
unfolding machinery resumed pending_reset status_loaded
rows =
    -- resume: on by one word of two; IC kept
    one (resumed c n).ic 0x0101 0x0100 0x00FF
    -- load_status: MK and SW exchanged; IC first
    ∷ some (status (status_loaded c 1 2 3)) (1 ∷ 2 ∷ 3 ∷ []) (2 ∷ 1 ∷ 3 ∷ []) (2 ∷ 3 ∷ 1 ∷ [])
    -- set_mask: added to the old mask; SW in place of MK
    ∷ some (status (with_mk c 0x1200)) (0x1200 ∷ 0x2031 ∷ 0x00FF ∷ []) (0x12FF ∷ 0x2031 ∷ 0x00FF ∷ []) (0x00FF ∷ 0x1200 ∷ 0x00FF ∷ [])
    -- set_status: CS kept; CS alone set
    ∷ some (status (with_sw c 0x8042)) (0x00FF ∷ 0x8042 ∷ 0x00FF ∷ []) (0x00FF ∷ 0x2042 ∷ 0x00FF ∷ []) (0x00FF ∷ 0x8031 ∷ 0x00FF ∷ [])
    -- set_pending: PI and FT exchanged; the memory fault status cleared
    ∷ some (pending (with_ft (with_pi c 1) 2)) (1 ∷ 2 ∷ 0xC005 ∷ 1 ∷ []) (2 ∷ 1 ∷ 0xC005 ∷ 1 ∷ []) (1 ∷ 2 ∷ 0 ∷ 1 ∷ [])
    -- clear_pending: the memory fault status kept; FT kept
    ∷ some (pending (with_mfs (with_ft (with_pi c 0) 0) 0)) (0 ∷ 0 ∷ 0 ∷ 1 ∷ []) (0 ∷ 0 ∷ 0xC005 ∷ 1 ∷ []) (0 ∷ 0x0080 ∷ 0 ∷ 1 ∷ [])
    -- hold_pending: added to the old PI; the hold mark left clear
    ∷ some (pending (with_hold (with_pi (with_hold c false) 0x0800) true)) (0x0800 ∷ 0x0080 ∷ 0xC005 ∷ 1 ∷ []) (0x4C00 ∷ 0x0080 ∷ 0xC005 ∷ 1 ∷ []) (0x0800 ∷ 0x0080 ∷ 0xC005 ∷ 0 ∷ [])
    -- reset_pending: FT kept; bit 0 cleared in place of bit 1
    ∷ some (pending (pending_reset c 1)) (0x0400 ∷ 0 ∷ 0xC005 ∷ 1 ∷ []) (0x0400 ∷ 0x0080 ∷ 0xC005 ∷ 1 ∷ []) (0x4400 ∷ 0 ∷ 0xC005 ∷ 1 ∷ [])
    -- set_enabled: the marks exchanged; the hold mark kept
    ∷ some (let t = with_hold (with_enabled c true) false in flag t.enabled ∷ flag t.hold ∷ []) (1 ∷ 0 ∷ []) (0 ∷ 1 ∷ []) (1 ∷ 1 ∷ [])
    ∷ []

pub rows-hold : T (hold rows)
unfolding rows machinery resumed pending_reset status_loaded
rows-hold = tt
