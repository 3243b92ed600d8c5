-- Chosen cases of the instruction set, each run as one step of the machine against the definitions: the places where a reading could go wrong.
-- Rows of one table that the checker computes; every part of the machine after the step is compared. Assumes nothing.
use Prim.Native.Nat.{ℕ}
use mathlib.Core.Bool.{Bool, true, false}
use mathlib.Core.List.{List, [], ◌∷◌, map}
use lib.Dec.{T}
use lib.ListN.{get_or, replicate, set}
use Rattle.choice.proofs.Rows.{all_of, equal}
use Rattle.machine.specs.declared.State.{State}
use Rattle.machine.specs.declared.Clock.{Clock}
use Rattle.machine.specs.Machine.{Machine, machine}
use Rattle.machine.specs.State.{with_core, with_clock, with_mk, with_pi, with_ft, with_mfs, with_enabled, with_hold}
use Rattle.machine.specs.Step.{step}
use Rattle.machine.specs.Runs.{run_of, steps, after_runs}
use Rattle.machine.proofs.Opened.{machinery}
use Rattle.machine.proofs.Samples.{reset_pages, hundreds, state_at, steps_on, same_machine}
use Rattle.isa.specs.Mil1750.{mil1750}
use Rattle.isa.proofs.OpenWords.{words}
use Rattle.isa.proofs.OpenFloats.{floats}
use Rattle.isa.proofs.OpenDecoder.{decoder}
use Rattle.isa.proofs.OpenInstructions.{instructions}

-- words at their places
abbrev pub Words : Type 0
Words = List (ℕ × ℕ)

-- a list with these words in it
unfoldable pub with : Words → List ℕ → List ℕ
with [] l = l
with (w ∷ ws) l = with ws (set l w.0 w.1)

-- what is not 0 before the step in a memory of 8,192 words, in the page registers (beside their reset values) and in R0 to R15, and SW, PI and FT;
-- then what is not 0 in R0 to R15 after it, IC, SW, MK, PI, FT, the hold mark, and words of the memory, of which all others are as before; the memory
-- fault status, which is 0 before
pub record Case : Type 0 where
  pub memory : Words
  pub pages : Words
  pub regs : Words
  pub sw : ℕ
  pub pi : ℕ
  pub ft : ℕ
  pub regs' : Words
  pub ic' : ℕ
  pub sw' : ℕ
  pub mk' : ℕ
  pub pi' : ℕ
  pub ft' : ℕ
  pub hold' : Bool
  pub memory' : Words
  pub mfs' : ℕ

abbrev pub made : Words → Words → Words → ℕ → ℕ → ℕ → Words → ℕ → ℕ → ℕ → ℕ → ℕ → Bool → Words → Case
made m g r s p f r' i' s' k' p' f' h' m' =
    record { memory = m; pages = g; regs = r; sw = s; pi = p; ft = f; regs' = r'; ic' = i'; sw' = s'; mk' = k'; pi' = p'; ft' = f'; hold' = h'; memory' = m'; mfs' = 0 }

-- the same, with a memory fault status after it
abbrev pub refused_at : ℕ → Case → Case
refused_at f c = record {
  memory = c.memory;
  pages = c.pages;
  regs = c.regs;
  sw = c.sw;
  pi = c.pi;
  ft = c.ft;
  regs' = c.regs';
  ic' = c.ic';
  sw' = c.sw';
  mk' = c.mk';
  pi' = c.pi';
  ft' = c.ft';
  hold' = c.hold';
  memory' = c.memory';
  mfs' = f;
}

unfoldable pub cases : List Case
cases =
    -- MOV moves one word a step; IC stays while the count is not zero
    made ((0x0, 0x9313) ∷ (0x30, 0xABCD) ∷ []) [] ((1, 0x0040) ∷ (2, 0x0002) ∷ (3, 0x0030) ∷ []) 0x0000 0x0000 0x0000
    ((1, 0x0041) ∷ (2, 0x0001) ∷ (3, 0x0031) ∷ []) 0x0000 0x0000 0x0000 0x0000 0x0000 false ((0x40, 0xABCD) ∷ (0x41, 0x0000) ∷ []) ∷
    -- MOV's last word lets IC go on
    made ((0x0, 0x9313) ∷ (0x30, 0xABCD) ∷ []) [] ((1, 0x0040) ∷ (2, 0x0001) ∷ (3, 0x0030) ∷ []) 0x0000 0x0000 0x0000
    ((1, 0x0041) ∷ (3, 0x0031) ∷ []) 0x0001 0x0000 0x0000 0x0000 0x0000 false ((0x40, 0xABCD) ∷ (0x41, 0x0000) ∷ []) ∷
    -- MOV with a count of 0 moves nothing, though its addresses lie outside the memory
    made ((0x0, 0x9313) ∷ []) [] ((1, 0x8000) ∷ (2, 0x0000) ∷ (3, 0x9000) ∷ []) 0x0000 0x0000 0x0000
    ((1, 0x8000) ∷ (3, 0x9000) ∷ []) 0x0001 0x0000 0x0000 0x0000 0x0000 false ((0x40, 0x0000) ∷ []) ∷
    -- MOV with RB = RA moves its address by 2
    made ((0x0, 0x9311) ∷ (0x30, 0x0007) ∷ []) [] ((1, 0x0030) ∷ (2, 0x0005) ∷ []) 0x0000 0x0000 0x0000
    ((1, 0x0032) ∷ (2, 0x0004) ∷ []) 0x0000 0x0000 0x0000 0x0000 0x0000 false ((0x30, 0x0007) ∷ (0x31, 0x0000) ∷ []) ∷
    -- MOV with RB = RA + 1: the count does not fall
    made ((0x0, 0x9312) ∷ (0x30, 0x0007) ∷ []) [] ((1, 0x0040) ∷ (2, 0x0030) ∷ []) 0x0000 0x0000 0x0000
    ((1, 0x0041) ∷ (2, 0x0030) ∷ []) 0x0000 0x0000 0x0000 0x0000 0x0000 false ((0x40, 0x0007) ∷ []) ∷
    -- POPM R14,R0 skips the word of R15, and R15 rises by 3
    made ((0x0, 0x8FE0) ∷ (0x50, 0x0001) ∷ (0x51, 0x0002) ∷ (0x52, 0x0003) ∷ []) [] ((15, 0x0050) ∷ []) 0x0000 0x0000 0x0000
    ((0, 0x0003) ∷ (14, 0x0001) ∷ (15, 0x0053) ∷ []) 0x0001 0x0000 0x0000 0x0000 0x0000 false ((0x50, 0x0001) ∷ (0x51, 0x0002) ∷ (0x52, 0x0003) ∷ []) ∷
    -- POPM R15,R15 only adds 1 to R15, whose word lies outside the memory
    made ((0x0, 0x8FFF) ∷ []) [] ((15, 0x7000) ∷ []) 0x0000 0x0000 0x0000
    ((15, 0x7001) ∷ []) 0x0001 0x0000 0x0000 0x0000 0x0000 false ((0x50, 0x0000) ∷ []) ∷
    -- PSHM R14,R2 stores R15 as it is just then
    made ((0x0, 0x9FE2) ∷ []) [] ((0, 0x000A) ∷ (1, 0x000B) ∷ (2, 0x000C) ∷ (14, 0x000E) ∷ (15, 0x0050) ∷ []) 0x0000 0x0000 0x0000
    ((0, 0x000A) ∷ (1, 0x000B) ∷ (2, 0x000C) ∷ (14, 0x000E) ∷ (15, 0x004B) ∷ []) 0x0001 0x0000 0x0000 0x0000 0x0000 false ((0x4A, 0x0000) ∷ (0x4B, 0x000E) ∷ (0x4C, 0x004C) ∷ (0x4D, 0x000A) ∷ (0x4E, 0x000B) ∷ (0x4F, 0x000C) ∷ (0x50, 0x0000) ∷ []) ∷
    -- LM 2 loads R0 to R2
    made ((0x0, 0x8920) ∷ (0x1, 0x0030) ∷ (0x30, 0x0005) ∷ (0x31, 0x0006) ∷ (0x32, 0x0007) ∷ (0x33, 0x0008) ∷ []) [] ((3, 0x0009) ∷ []) 0x2000 0x0000 0x0000
    ((0, 0x0005) ∷ (1, 0x0006) ∷ (2, 0x0007) ∷ (3, 0x0009) ∷ []) 0x0002 0x2000 0x0000 0x0000 0x0000 false ((0x30, 0x0005) ∷ []) ∷
    -- STM 1 stores R0 and R1
    made ((0x0, 0x9910) ∷ (0x1, 0x0030) ∷ []) [] ((0, 0x0005) ∷ (1, 0x0006) ∷ (2, 0x0007) ∷ []) 0x0000 0x0000 0x0000
    ((0, 0x0005) ∷ (1, 0x0006) ∷ (2, 0x0007) ∷ []) 0x0002 0x0000 0x0000 0x0000 0x0000 false ((0x30, 0x0005) ∷ (0x31, 0x0006) ∷ (0x32, 0x0000) ∷ []) ∷
    -- SJS stores the next address below RA
    made ((0x0, 0x7E50) ∷ (0x1, 0x0020) ∷ []) [] ((5, 0x0040) ∷ []) 0x1000 0x0000 0x0000
    ((5, 0x003F) ∷ []) 0x0020 0x1000 0x0000 0x0000 0x0000 false ((0x3F, 0x0002) ∷ (0x40, 0x0000) ∷ []) ∷
    -- URS takes it back
    made ((0x0, 0x7F50) ∷ (0x3F, 0x0022) ∷ []) [] ((5, 0x003F) ∷ []) 0x1000 0x0000 0x0000
    ((5, 0x0040) ∷ []) 0x0022 0x1000 0x0000 0x0000 0x0000 false ((0x3F, 0x0022) ∷ []) ∷
    -- R0 does not index
    made ((0x0, 0x8010) ∷ (0x1, 0x0030) ∷ (0x30, 0x0003) ∷ (0x35, 0x0004) ∷ []) [] ((0, 0x0005) ∷ []) 0x0000 0x0000 0x0000
    ((0, 0x0005) ∷ (1, 0x0003) ∷ []) 0x0002 0x4000 0x0000 0x0000 0x0000 false ((0x30, 0x0003) ∷ []) ∷
    -- a branch goes from its own address
    made ((0x0, 0x7410) ∷ []) [] [] 0x0000 0x0000 0x0000
    [] 0x0010 0x0000 0x0000 0x0000 0x0000 false ((0x0, 0x7410) ∷ []) ∷
    -- DLB has R0 and R1 as its accumulator, by R13 and a displacement
    made ((0x0, 0x0502) ∷ (0x32, 0x8000) ∷ (0x33, 0x0001) ∷ []) [] ((13, 0x0030) ∷ []) 0x0000 0x0000 0x0000
    ((0, 0x8000) ∷ (1, 0x0001) ∷ (13, 0x0030) ∷ []) 0x0001 0x1000 0x0000 0x0000 0x0000 false ((0x32, 0x8000) ∷ []) ∷
    -- STBX has R2, by R12 and R3
    made ((0x0, 0x4023) ∷ []) [] ((2, 0x0009) ∷ (3, 0x0002) ∷ (12, 0x0030) ∷ []) 0x0000 0x0000 0x0000
    ((2, 0x0009) ∷ (3, 0x0002) ∷ (12, 0x0030) ∷ []) 0x0001 0x0000 0x0000 0x0000 0x0000 false ((0x32, 0x0009) ∷ []) ∷
    -- a double store over a page's end is refused whole where the second page is write protected
    refused_at 0x1000 (made ((0x0, 0x9650) ∷ (0x1, 0x0FFF) ∷ []) ((257, 0x0801) ∷ []) ((5, 0x0001) ∷ (6, 0x0002) ∷ []) 0x0000 0x0000 0x0000
    ((5, 0x0001) ∷ (6, 0x0002) ∷ []) 0x0002 0x0000 0x0000 0x4000 0x8000 false ((0xFFF, 0x0000) ∷ [])) ∷
    -- a read-modify-write outside the memory and write protected: the read refuses first
    refused_at 0x3000 (made ((0x0, 0x5070) ∷ (0x1, 0x3000) ∷ []) ((259, 0x0805) ∷ []) [] 0x0000 0x0000 0x0000
    [] 0x0002 0x0000 0x0000 0x4000 0x0080 false ((0x0, 0x5070) ∷ [])) ∷
    -- JCI 0 reads its indirect word all the same
    refused_at 0x9000 (made ((0x0, 0x7100) ∷ (0x1, 0x9000) ∷ []) [] [] 0x0000 0x0000 0x0000
    [] 0x0002 0x0000 0x0000 0x4000 0x0080 false ((0x0, 0x7100) ∷ [])) ∷
    -- TSB tests, then sets
    made ((0x0, 0x5900) ∷ (0x1, 0x0030) ∷ []) [] [] 0x0000 0x0000 0x0000
    [] 0x0002 0x2000 0x0000 0x0000 0x0000 false ((0x30, 0x8000) ∷ []) ∷
    -- CO is an illegal command
    made ((0x0, 0x4850) ∷ (0x1, 0x4000) ∷ []) [] [] 0x0000 0x0000 0x0000
    [] 0x0002 0x0000 0x0000 0x4000 0x0400 false ((0x0, 0x4850) ∷ []) ∷
    -- XIO is privileged
    made ((0x0, 0x4850) ∷ (0x1, 0x2000) ∷ []) ((0, 0xF000) ∷ (256, 0xF000) ∷ []) [] 0x0030 0x0000 0x0000
    [] 0x0001 0x0030 0x0000 0x4000 0x0020 false ((0x0, 0x4850) ∷ []) ∷
    -- RPI of 1 clears FT too, by the low four bits of RA
    made ((0x0, 0x4850) ∷ (0x1, 0x2004) ∷ []) [] ((5, 0xFFF1) ∷ []) 0x0000 0x4100 0x0400
    ((5, 0xFFF1) ∷ []) 0x0002 0x0000 0x0000 0x0100 0x0000 false ((0x0, 0x4850) ∷ []) ∷
    -- SPI replaces PI and sets the hold mark
    made ((0x0, 0x4850) ∷ (0x1, 0x2005) ∷ []) [] ((5, 0x0100) ∷ []) 0x0000 0x4000 0x0400
    ((5, 0x0100) ∷ []) 0x0002 0x0000 0x0000 0x0100 0x0400 true ((0x0, 0x4850) ∷ []) ∷
    -- LST loads MK, SW and IC
    made ((0x0, 0x7D00) ∷ (0x1, 0x0030) ∷ (0x30, 0x1111) ∷ (0x31, 0x2222) ∷ (0x32, 0x0033) ∷ []) [] [] 0x0000 0x0000 0x0000
    [] 0x0033 0x2222 0x1111 0x0000 0x0000 false ((0x30, 0x1111) ∷ []) ∷
    -- XWR exchanges, and CS is RA's
    made ((0x0, 0xED12) ∷ []) [] ((1, 0x0005) ∷ (2, 0x8000) ∷ []) 0x0000 0x0000 0x0000
    ((1, 0x8000) ∷ (2, 0x0005) ∷ []) 0x0001 0x1000 0x0000 0x0000 0x0000 false ((0x0, 0xED12) ∷ []) ∷
    -- DVR: the remainder has the dividend's sign
    made ((0x0, 0xD112) ∷ []) [] ((1, 0xFFF9) ∷ (2, 0x0002) ∷ []) 0x0000 0x0000 0x0000
    ((1, 0xFFFD) ∷ (2, 0xFFFF) ∷ []) 0x0001 0x1000 0x0000 0x0000 0x0000 false ((0x0, 0xD112) ∷ []) ∷
    -- SAR: the sign changes on its way and comes back
    made ((0x0, 0x6B12) ∷ []) [] ((1, 0xA000) ∷ (2, 0x0002) ∷ []) 0x0000 0x0000 0x0000
    ((1, 0x8000) ∷ (2, 0x0002) ∷ []) 0x0001 0x1000 0x0000 0x0800 0x0000 false ((0x0, 0x6B12) ∷ []) ∷
    []

-- R0 to R15, IC, SW, PI and FT
abbrev pub state_of : Words → ℕ → ℕ → ℕ → ℕ → State
state_of regs ic sw pi ft = let s = state_at (with regs (replicate 16 0)) ic sw in with_core s (with_ft (with_pi s.core pi) ft)

-- with MK, the hold mark and the memory fault status
abbrev pub masked : State → ℕ → Bool → ℕ → State
masked s mk hold mfs = with_core s (with_mfs (with_hold (with_mk s.core mk) hold) mfs)

-- a state, and what was stored since the step began
abbrev pub holding : Case → State → Words → Machine
holding c s stored = machine s (with stored (with c.memory (replicate 8192 0))) (with c.pages reset_pages) (replicate 1024 0)

-- the machine after the step is what the row says; counter and timers have run on
unfoldable pub right : Case → Bool
right c =
    let x = step mil1750 hundreds (holding c (state_of c.regs 0 c.sw c.pi c.ft) []) in
    same_machine x (holding c (steps_on 1 (masked (state_of c.regs' c.ic' c.sw' c.pi' c.ft') c.mk' c.hold' c.mfs')) c.memory')

pub cases-hold : T (all_of right cases)
unfolding words floats decoder machinery instructions with cases right
cases-hold = tt

-- ---- the timer commands: XIO with RA R1, in a step of 250 tenths

-- the command, the clock and R1 before the step; then the clock, R1 and PI
pub record Timed : Type 0 where
  pub command : ℕ
  pub clock : Clock
  pub ra : ℕ
  pub clock' : Clock
  pub ra' : ℕ
  pub pi' : ℕ

-- a timer, its remainder, and whether it runs
abbrev pub Timer : Type 0
Timer = ℕ × ℕ × Bool

-- timers A and B, and the counter
abbrev pub clock_of : Timer → Timer → ℕ → Clock
clock_of a b count = record { ta = a.0; tb = b.0; rema = a.1; remb = b.1; taon = a.2; tbon = b.2; count = count }

-- a command from timers A and B and R1 to others, and PI
abbrev pub timed : ℕ → Timer → Timer → ℕ → Timer → Timer → ℕ → ℕ → Timed
timed command a b ra a' b' ra' pi' = record { command = command; clock = clock_of a b 9; ra = ra; clock' = clock_of a' b' 10; ra' = ra'; pi' = pi' }

unfoldable pub timers : List Timed
timers =
    -- TAS, TBS: a timer that is started counts the whole step, with the remainder that it had; B passes its end
    timed 0x4008 (5, 60, false) (7, 800, true) 0x1234 (8, 10, true) (8, 50, true) 0x1234 0x0000 ∷
    timed 0x4008 (5, 60, true) (7, 800, true) 0x1234 (8, 10, true) (8, 50, true) 0x1234 0x0000 ∷
    timed 0x400C (5, 60, false) (0xFFFF, 800, false) 0x1234 (5, 60, false) (0, 50, true) 0x1234 0x0040 ∷
    -- TAH, TBH: a timer that is halted counts nothing of the step, and keeps its remainder
    timed 0x4009 (0xFFFF, 99, true) (7, 800, true) 0x1234 (0xFFFF, 99, false) (8, 50, true) 0x1234 0x0000 ∷
    timed 0x400D (5, 60, true) (0xFFFF, 999, true) 0x1234 (8, 10, true) (0xFFFF, 999, false) 0x1234 0x0000 ∷
    -- OTA, OTB: a timer that is set starts, without its remainder; the other keeps its own. A passes its end
    timed 0x400A (5, 99, true) (7, 800, true) 0xFFFF (1, 50, true) (8, 50, true) 0xFFFF 0x0100 ∷
    timed 0x400A (5, 99, false) (7, 700, false) 0x0010 (0x0012, 50, true) (7, 700, false) 0x0010 0x0000 ∷
    timed 0x400E (5, 60, true) (7, 999, false) 0x0010 (8, 10, true) (0x0010, 250, true) 0x0010 0x0000 ∷
    -- ITA, ITB: the timer before it rises
    timed 0xC00A (5, 60, true) (7, 800, true) 0x1234 (8, 10, true) (8, 50, true) 0x0005 0x0000 ∷
    timed 0xC00E (5, 60, true) (7, 800, true) 0x1234 (8, 10, true) (8, 50, true) 0x0007 0x0000 ∷
    []

-- XIO R1 and the command at 0
abbrev pub ticking : Timed → State → Machine
ticking c s = machine s (with ((0, 0x4810) ∷ (1, c.command) ∷ []) (replicate 8192 0)) reset_pages (replicate 1024 0)

unfoldable pub kept : Timed → Bool
kept c =
    same_machine (step mil1750 (set (replicate 257 0) 0x48 250) (ticking c (with_clock (state_of ((1, c.ra) ∷ []) 0 0 0 0) c.clock)))
    (ticking c (with_clock (state_of ((1, c.ra') ∷ []) 2 0 c.pi' 0) c.clock'))

pub timers-hold : T (all_of kept timers)
unfolding words floats decoder machinery instructions with timers kept
timers-hold = tt

-- ---- steps with durations of their own

-- words of the memory, of the page registers and of R0 to R15; IC, SW, PI; timers A and B
abbrev pub from : Words → Words → Words → ℕ → ℕ → ℕ → Timer → Timer → Machine
from memory pages regs ic sw pi a b =
    machine (with_clock (state_of regs ic sw pi 0) (clock_of a b 0)) (with memory (replicate 8192 0)) (with pages reset_pages) (replicate 1024 0)

-- after reset, with words of the memory
abbrev pub fresh : Words → Machine
fresh memory = from memory [] [] 0 0 0 (0, 0, true) (0, 0, true)

-- IC, PI, FT, and each timer with its remainder
abbrev pub shown : Machine → List ℕ
shown x = let s = x.state in s.core.ic ∷ s.core.pi ∷ s.core.faults.ft ∷ s.clock.ta ∷ s.clock.rema ∷ s.clock.tb ∷ s.clock.remb ∷ []

-- a machine, durations, a number of steps: what is shown after them
pub record Lasted : Type 0 where
  pub start : Machine
  pub durations : List ℕ
  pub count : ℕ
  pub end : List ℕ

abbrev pub lasted : Machine → List ℕ → ℕ → List ℕ → Lasted
lasted x d n r = record { start = x; durations = d; count = n; end = r }

-- all 0 but for these
abbrev pub only : Words → List ℕ
only d = with d (replicate 257 0)

-- five NOP, then OTB of R1
abbrev pub setting : Machine
setting = from ((0, 0xFF00) ∷ (1, 0xFF00) ∷ (2, 0xFF00) ∷ (3, 0xFF00) ∷ (4, 0xFF00) ∷ (5, 0x4810) ∷ (6, 0x400E) ∷ []) [] ((1, 7) ∷ []) 0 0 0 (0, 0, true) (0, 0, true)

unfoldable pub timed_steps : List Lasted
timed_steps =
    -- 100 tenths each: A rises with each step, B with each tenth one
    lasted (fresh []) hundreds 10 (10 ∷ 0 ∷ 0 ∷ 10 ∷ 0 ∷ 1 ∷ 0 ∷ []) ∷
    lasted (fresh []) hundreds 15 (15 ∷ 0 ∷ 0 ∷ 15 ∷ 0 ∷ 1 ∷ 500 ∷ []) ∷
    lasted (fresh []) (only ((0x00, 37) ∷ [])) 3 (3 ∷ 0 ∷ 0 ∷ 1 ∷ 11 ∷ 0 ∷ 111 ∷ []) ∷
    lasted (fresh []) (only ((0x00, 37) ∷ [])) 28 (28 ∷ 0 ∷ 0 ∷ 10 ∷ 36 ∷ 1 ∷ 36 ∷ []) ∷
    -- the first word is refused; it is illegal; it is privileged; the second word is refused
    lasted (from [] ((0, 0x0800) ∷ []) [] 0 0 0 (0, 0, true) (0, 0, true)) (only ((256, 250) ∷ [])) 1 (1 ∷ 0x4000 ∷ 0x8000 ∷ 2 ∷ 50 ∷ 0 ∷ 250 ∷ []) ∷
    lasted (fresh ((0, 0xFE00) ∷ [])) (only ((0xFE, 30) ∷ (256, 999) ∷ [])) 1 (1 ∷ 0x4000 ∷ 0x0040 ∷ 0 ∷ 30 ∷ 0 ∷ 30 ∷ []) ∷
    lasted (from ((0, 0x4800) ∷ []) ((0, 0xF000) ∷ []) [] 0 0x0010 0 (0, 0, true) (0, 0, true)) (only ((0x48, 40) ∷ [])) 1 (1 ∷ 0x4000 ∷ 0x0020 ∷ 0 ∷ 40 ∷ 0 ∷ 40 ∷ []) ∷
    lasted (from ((0x0FFF, 0x8010) ∷ []) ((1, 0x0004) ∷ []) [] 0x0FFF 0 0 (0, 0, true) (0, 0, true)) (only ((0x80, 77) ∷ (256, 999) ∷ [])) 1 (0x1001 ∷ 0x4000 ∷ 0x0080 ∷ 0 ∷ 77 ∷ 0 ∷ 77 ∷ []) ∷
    -- BEX, and the entry of interrupt 0
    lasted (fresh ((0, 0x7700) ∷ [])) (only ((0x77, 300) ∷ (256, 7) ∷ [])) 1 (0 ∷ 0 ∷ 0 ∷ 3 ∷ 0 ∷ 0 ∷ 300 ∷ []) ∷
    lasted (from ((0, 0x7700) ∷ []) [] [] 0 0 0x8000 (0, 0, true) (0, 0, true)) (only ((0x77, 300) ∷ (256, 7) ∷ [])) 1 (0 ∷ 0 ∷ 0 ∷ 0 ∷ 7 ∷ 0 ∷ 7 ∷ []) ∷
    -- TAH, then TAS
    lasted (from ((0, 0x4810) ∷ (1, 0x4009) ∷ (2, 0x4810) ∷ (3, 0x4008) ∷ []) [] [] 0 0 0 (5, 60, true) (0, 0, true)) (only ((0x48, 90) ∷ [])) 1 (2 ∷ 0 ∷ 0 ∷ 5 ∷ 60 ∷ 0 ∷ 90 ∷ []) ∷
    lasted (from ((0, 0x4810) ∷ (1, 0x4009) ∷ (2, 0x4810) ∷ (3, 0x4008) ∷ []) [] [] 0 0 0 (5, 60, true) (0, 0, true)) (only ((0x48, 90) ∷ [])) 2 (4 ∷ 0 ∷ 0 ∷ 6 ∷ 50 ∷ 0 ∷ 180 ∷ []) ∷
    -- the longest step: 656 rises of A, 66 of B
    lasted (from [] [] [] 0 0 0 (0xFFF0, 99, true) (0xFFFF, 999, true)) (only ((0x00, 65535) ∷ [])) 1 (1 ∷ 0x0140 ∷ 0 ∷ 0x0280 ∷ 34 ∷ 0x0041 ∷ 534 ∷ []) ∷
    -- MOV of three words
    lasted (from ((0, 0x9324) ∷ []) [] ((2, 0x0100) ∷ (3, 3) ∷ (4, 0x0200) ∷ []) 0 0 0 (0, 0, true) (0, 0, true)) (only ((0x93, 60) ∷ [])) 3 (1 ∷ 0 ∷ 0 ∷ 1 ∷ 80 ∷ 0 ∷ 180 ∷ []) ∷
    -- MOV of none
    lasted (from ((0, 0x9324) ∷ []) [] ((2, 0x0100) ∷ (4, 0x0200) ∷ []) 0 0 0 (0, 0, true) (0, 0, true)) (only ((0x93, 60) ∷ [])) 1 (1 ∷ 0 ∷ 0 ∷ 0 ∷ 60 ∷ 0 ∷ 60 ∷ []) ∷
    -- timer B, set in the sixth step of 100 tenths, rises in the fifteenth
    lasted setting hundreds 14 (15 ∷ 0 ∷ 0 ∷ 14 ∷ 0 ∷ 7 ∷ 900 ∷ []) ∷
    lasted setting hundreds 15 (16 ∷ 0 ∷ 0 ∷ 15 ∷ 0 ∷ 8 ∷ 0 ∷ []) ∷
    []

unfoldable pub lasts : Lasted → Bool
lasts r = equal (shown (steps mil1750 r.durations r.count r.start)) r.end

pub timed-steps-hold : T (all_of lasts timed_steps)
unfolding words floats decoder machinery instructions with timed_steps lasts
timed-steps-hold = tt

-- two runs with other durations: three steps of 100 tenths, then three of 50
pub halves-hold : T (equal (shown (after_runs mil1750 (run_of 3 hundreds ∷ run_of 3 (replicate 257 50) ∷ []) (fresh []))) (6 ∷ 0 ∷ 0 ∷ 4 ∷ 50 ∷ 0 ∷ 450 ∷ []))
unfolding words floats decoder machinery instructions with
halves-hold = tt

-- ---- where the memory fault was: steps in a memory of 16,384 words, pages 0 to 3

-- words of the memory, of the page registers and of R0 to R15; IC and SW
abbrev pub paged : Words → Words → Words → ℕ → ℕ → Machine
paged memory pages regs ic sw = machine (state_of regs ic sw 0 0) (with memory (replicate 16384 0)) (with pages reset_pages) (replicate 1024 0)

-- interrupt 4 pends, by its vector (linkage and service pointer); at 0200 the new MK, SW with address state 3, IC
abbrev pub pending : ℕ → ℕ → Words → Machine
pending link service pages =
    let x = paged ((0x28, link) ∷ (0x29, service) ∷ (0x200, 0) ∷ (0x201, 3) ∷ (0x202, 0x300) ∷ []) pages [] 0 0 in
    machine (with_core x.state (with_enabled (with_mk (with_pi x.state.core 0x0800) 0x0800) true)) x.memory x.pages x.ports

-- IC, SW, PI, FT, the memory fault status, R5, and some words of the memory
abbrev pub fault_shown : Machine → List ℕ → List ℕ
fault_shown x places =
    let c = x.state.core in
    c.ic ∷ c.sw ∷ c.pi ∷ c.faults.ft ∷ c.faults.mfs ∷ get_or x.state.regs 5 0 ∷ map (λ a. get_or x.memory a 0) places

-- a machine, a number of steps, addresses: what is shown after them
pub record Fault : Type 0 where
  pub start : Machine
  pub count : ℕ
  pub places : List ℕ
  pub end : List ℕ

abbrev pub fault : Machine → ℕ → List ℕ → List ℕ → Fault
fault x n places r = record { start = x; count = n; places = places; end = r }

-- L R1,C123 at 0 in address state 5, whose page C is outside the memory, then other words
abbrev pub outside : Words → Words → Machine
outside memory regs = paged ((0, 0x8010) ∷ (1, 0xC123) ∷ memory) [] regs 0 5

unfoldable pub faults : List Fault
faults =
    -- a first fetch, an operand, a second word: each by its own register
    fault (paged [] ((83, 0x0803) ∷ []) [] 0x3ABC 5) 1 [] (0x3ABD ∷ 5 ∷ 0x4000 ∷ 0x8000 ∷ 0x3015 ∷ 0 ∷ []) ∷
    fault (outside [] []) 1 [] (2 ∷ 5 ∷ 0x4000 ∷ 0x0080 ∷ 0xC005 ∷ 0 ∷ []) ∷
    fault (paged ((0x0FFF, 0x8010) ∷ []) ((1, 0x0004) ∷ []) [] 0x0FFF 0) 1 [] (0x1001 ∷ 0 ∷ 0x4000 ∷ 0x0080 ∷ 0x1010 ∷ 0 ∷ []) ∷
    -- DST over the end of a page, refused by W and by the memory's end; of STM the first refusal; an indirect word
    fault (paged ((0, 0x9610) ∷ (1, 0x0FFF) ∷ []) ((257, 0x0801) ∷ []) ((1, 7) ∷ (2, 8) ∷ []) 0 0) 1 (0x0FFF ∷ 0x1000 ∷ []) (2 ∷ 0 ∷ 0x4000 ∷ 0x8000 ∷ 0x1000 ∷ 0 ∷ 0 ∷ 0 ∷ []) ∷
    fault (paged ((0, 0x9610) ∷ (1, 0x3FFF) ∷ []) [] ((1, 7) ∷ []) 0 0) 1 (0x3FFF ∷ []) (2 ∷ 0 ∷ 0x4000 ∷ 0x0080 ∷ 0x4000 ∷ 0 ∷ 0 ∷ []) ∷
    fault (paged ((0, 0x9910) ∷ (1, 0x4FFF) ∷ []) ((261, 0x0805) ∷ []) [] 0 0) 1 [] (2 ∷ 0 ∷ 0x4000 ∷ 0x0080 ∷ 0x4000 ∷ 0 ∷ []) ∷
    fault (paged ((0, 0x7100) ∷ (1, 0x4000) ∷ []) [] [] 0 0) 1 [] (2 ∷ 0 ∷ 0x4000 ∷ 0x0080 ∷ 0x4000 ∷ 0 ∷ []) ∷
    -- an illegal word, RCFR and RPI of 1 leave the status; CLIR clears it; RMFS reads it and leaves CS
    fault (outside ((2, 0xFE00) ∷ []) []) 2 [] (3 ∷ 5 ∷ 0x4000 ∷ 0x00C0 ∷ 0xC005 ∷ 0 ∷ []) ∷
    fault (outside ((2, 0x4850) ∷ (3, 0xA00F) ∷ []) []) 2 [] (4 ∷ 5 ∷ 0 ∷ 0 ∷ 0xC005 ∷ 0x0080 ∷ []) ∷
    fault (outside ((2, 0x4850) ∷ (3, 0x2004) ∷ []) ((5, 1) ∷ [])) 2 [] (4 ∷ 5 ∷ 0 ∷ 0 ∷ 0xC005 ∷ 1 ∷ []) ∷
    fault (outside ((2, 0x4850) ∷ (3, 0x2001) ∷ []) ((5, 1) ∷ [])) 2 [] (4 ∷ 5 ∷ 0 ∷ 0 ∷ 0 ∷ 1 ∷ []) ∷
    fault (outside ((2, 0x4850) ∷ (3, 0xA00D) ∷ []) []) 2 [] (4 ∷ 5 ∷ 0x4000 ∷ 0x0080 ∷ 0xC005 ∷ 0xC005 ∷ []) ∷
    -- entries: the stores, by address state 3; MK, SW and IC; both, by address state 0 as the new SW is refused
    fault (pending 0x5000 0x0200 []) 1 [] (0x0300 ∷ 3 ∷ 0x4000 ∷ 0x0080 ∷ 0x5003 ∷ 0 ∷ []) ∷
    fault (pending 0x0100 0x6000 []) 1 (0x0100 ∷ 0x0101 ∷ 0x0102 ∷ []) (0 ∷ 0 ∷ 0x4000 ∷ 0x0080 ∷ 0x6000 ∷ 0 ∷ 0x0800 ∷ 0 ∷ 0 ∷ []) ∷
    fault (pending 0x5000 0x6000 []) 1 [] (0 ∷ 0 ∷ 0x4000 ∷ 0x0080 ∷ 0x5000 ∷ 0 ∷ []) ∷
    -- SW and IC past the memory's end; MK at FFFF alone
    fault (pending 0x0100 0x3FFF []) 1 (0x0100 ∷ []) (0 ∷ 0 ∷ 0x4000 ∷ 0x0080 ∷ 0x4000 ∷ 0 ∷ 0x0800 ∷ []) ∷
    fault (pending 0x0100 0xFFFF []) 1 (0x0100 ∷ []) (0 ∷ 0 ∷ 0x4000 ∷ 0x0080 ∷ 0xF000 ∷ 0 ∷ 0x0800 ∷ []) ∷
    -- the second of the stores
    fault (pending 0x0FFF 0x0200 ((305, 0x0801) ∷ [])) 1 (0x0FFF ∷ []) (0x0300 ∷ 3 ∷ 0x4000 ∷ 0x8000 ∷ 0x1003 ∷ 0 ∷ 0 ∷ []) ∷
    -- of two faults in a row the second
    fault (paged ((0x3FFE, 0x8010) ∷ (0x3FFF, 0xC123) ∷ []) ((84, 0x0804) ∷ []) [] 0x3FFE 5) 2 [] (0x4001 ∷ 5 ∷ 0x4000 ∷ 0x8080 ∷ 0x4015 ∷ 0 ∷ []) ∷
    []

unfoldable pub fault_right : Fault → Bool
fault_right r = equal (fault_shown (steps mil1750 hundreds r.count r.start) r.places) r.end

pub faults-hold : T (all_of fault_right faults)
unfolding words floats decoder machinery instructions with faults fault_right
faults-hold = tt
