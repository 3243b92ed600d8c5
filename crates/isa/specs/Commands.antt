-- The privileged operations: XIO's commands (5.1), each by its number, and LST (5.35).
-- s is the state, c the core, g the page registers, o the ports, n the instruction. Assumes nothing.
use Rattle.std.specs.Prelude.{ℕ, ◌+◌, ◌%◌, Bool, true, false, cond, List, [], ◌∷◌, map, eqb, get_or, set}
use Rattle.choice.specs.Select.{select, up_to}
use Rattle.choice.specs.Table.{among}
use Rattle.decode.specs.Forms.{operation_of}
use Rattle.machine.specs.declared.State.{State}
use Rattle.machine.specs.declared.Core.{Core}
use Rattle.machine.specs.declared.Instruction.{Instruction}
use Rattle.bits.specs.Bits.{weight, reset_bit}
use Rattle.machine.specs.State.{with_regs, with_core, with_clock, with_ic, with_sw, with_mk, with_pi, with_ft, with_mfs, with_enabled, with_hold, with_ta, with_tb, with_rem_a, with_rem_b, with_ta_on, with_tb_on}
use Rattle.machine.specs.Faults.{ft_alone}
use Rattle.machine.specs.Machine.{Supervised, done, refused, next_of}
use Rattle.isa.specs.Fields.{field_a, register, with_register}

-- the core at the next instruction
unfoldable pub resumed : Core → Instruction → Core
resumed c n = with_ic c (next_of n)

-- RPI: PI bit k is cleared; k = 1 clears FT too
unfoldable pub pending_reset : Core → ℕ → Core
pending_reset c k = cond (eqb k 1) (with_ft (with_pi c (reset_bit c.pi k)) 0) (with_pi c (reset_bit c.pi k))

-- RA gets a word
unfoldable pub with_ra : State → Instruction → ℕ → State
with_ra s n x = with_regs s (with_register s.regs (field_a n.first) x)

-- RCFR: RA gets FT; FT and PI bit 1 are cleared
unfoldable pub faults_read : State → Instruction → State
faults_read s n = with_core (with_ra s n s.core.faults.ft) (with_ft (with_pi s.core (reset_bit s.core.pi 1)) 0)

-- a command is done: page registers g, ports o and the state t are the machine's afterwards
unfoldable pub becomes : List ℕ → List ℕ → State → Supervised
becomes g o t = done (record { state = t; pages = g; ports = o })

-- the timer commands, each with what it does to a state whose register k is RA: TAS TAH OTA TBS TBH OTB, ITA ITB. "OTA and OTB clear theirs": no other command
-- touches a remainder
abbrev pub timer_rules : List (ℕ × (State → ℕ → State))
timer_rules =
    (0x4008, λ s k. with_clock s (with_ta_on s.clock true)) ∷
    (0x4009, λ s k. with_clock s (with_ta_on s.clock false)) ∷
    (0x400A, λ s k. with_clock s (with_ta_on (with_rem_a (with_ta s.clock (register s.regs k)) 0) true)) ∷
    (0x400C, λ s k. with_clock s (with_tb_on s.clock true)) ∷
    (0x400D, λ s k. with_clock s (with_tb_on s.clock false)) ∷
    (0x400E, λ s k. with_clock s (with_tb_on (with_rem_b (with_tb s.clock (register s.regs k)) 0) true)) ∷
    (0xC00A, λ s k. with_regs s (with_register s.regs k s.clock.ta)) ∷
    (0xC00E, λ s k. with_regs s (with_register s.regs k s.clock.tb)) ∷
    []

-- a timer command; any other number leaves the state
unfoldable pub timer_command : State → ℕ → ℕ → State
timer_command s k command = select command timer_rules (λ t j. t) s k

-- whether a command is one of these
unfoldable pub is_timer : ℕ → Bool
is_timer command = among command (map (λ r. r.0) timer_rules)

-- the other commands on the state alone, from the contents of RA, for the state at the next instruction: SMK CLIR ENBL DSBL RPI SPI WSW, RMK RPIR RMFS RSW RCFR.
-- CLIR clears the memory fault status too, and RCFR does not (change request 4)
abbrev pub core_rules : State → List ℕ → List ℕ → Instruction → ℕ → List (ℕ × Supervised)
core_rules s g o n ra =
    let c = s.core in
    let core : Core → Supervised = λ d. becomes g o (with_core s d) in
    (0x2000, core (with_mk c ra)) ∷
    (0x2001, core (with_mfs (with_ft (with_pi c 0) 0) 0)) ∷
    (0x2002, core (with_hold (with_enabled c true) true)) ∷
    (0x2003, core (with_enabled c false)) ∷
    (0x2004, core (pending_reset c (ra % 16))) ∷
    (0x2005, core (with_hold (with_pi c ra) true)) ∷
    (0x200E, core (with_sw c ra)) ∷
    (0xA000, becomes g o (with_ra s n c.mk)) ∷
    (0xA004, becomes g o (with_ra s n c.pi)) ∷
    (0xA00D, becomes g o (with_ra s n c.faults.mfs)) ∷
    (0xA00E, becomes g o (with_ra s n c.sw)) ∷
    (0xA00F, becomes g o (faults_read s n)) ∷
    []

-- any other is an illegal command, FT bit 5
unfoldable pub core_command : State → List ℕ → List ℕ → Instruction → ℕ → ℕ → Supervised
core_command s g o n ra command = select command (core_rules s g o n ra) (refused (ft_alone (weight 5)))

-- the commands on the state alone: those of timers and the others
unfoldable pub state_command : State → List ℕ → List ℕ → Instruction → ℕ → ℕ → Supervised
state_command s g o n ra command =
    cond (is_timer command) (becomes g o (timer_command s (field_a n.first) command)) (core_command s g o n ra command)

-- all commands: by ranges those that name a port or a page register in their low bits, PO PI WIPR WOPR RIPR ROPR, and between them the others
abbrev pub ranges : State → List ℕ → List ℕ → Instruction → ℕ → ℕ → List (ℕ × Supervised)
ranges s g o n ra command =
    let page = command % 256 in
    let other = state_command s g o n ra command in
    (0x03FF, becomes g (set o command ra) s) ∷
    (0x50FF, other) ∷
    (0x51FF, becomes (set g page ra) o s) ∷
    (0x52FF, becomes (set g (256 + page) ra) o s) ∷
    (0x7FFF, other) ∷
    (0x83FF, becomes g o (with_ra s n (get_or o (command % 1024) 0))) ∷
    (0xD0FF, other) ∷
    (0xD1FF, becomes g o (with_ra s n (get_or g page 0))) ∷
    (0xD2FF, becomes g o (with_ra s n (get_or g (256 + page) 0))) ∷
    []

unfoldable pub commanded : State → List ℕ → List ℕ → Instruction → ℕ → ℕ → Supervised
commanded s g o n ra command = up_to command (ranges s g o n ra command) (state_command s g o n ra command)

-- XIO: its command is its immediate operand, from the contents of RA
abbrev pub transferred : State → List ℕ → List ℕ → Instruction → Supervised
transferred s g o n = commanded (with_core s (resumed s.core n)) g o n (register s.regs (field_a n.first)) n.address

-- LST, LSTI: MK, SW and IC get the three words read
unfoldable pub status_loaded : Core → ℕ → ℕ → ℕ → Core
status_loaded c x y z = with_ic (with_sw (with_mk c x) y) z

-- 5.35 is LST; any other privileged operation is XIO
unfoldable pub supervised_by : State → List ℕ → List ℕ → Instruction → List ℕ → Supervised
supervised_by s g o n ws =
    cond (eqb (operation_of n.form) 35)
    (becomes g o (with_core s (status_loaded s.core (get_or ws 0 0) (get_or ws 1 0) (get_or ws 2 0))))
    (transferred s g o n)
