-- Known cases of the definitions, as rows of one table that the checker computes: which interrupt is entered, the counter and the timers, the duration of a step,
-- the checks before a run, and single steps of a small instruction set. Assumes nothing.
use Prim.Native.Nat.{ℕ, zero, suc, ◌+◌}
use mathlib.Core.Bool.{Bool, true, false, cond, ◌&&◌}
use mathlib.Core.List.{List, [], ◌∷◌, ◌++◌, map}
use mathlib.Core.Option.{Option, none, some}
use lib.Dec.{T, eqb, ltb}
use lib.ListN.{get_or, set, replicate}
use Rattle.choice.proofs.Rows.{equal, all_of}
use Rattle.page.specs.declared.Span.{Span}
use Rattle.page.specs.Spans.{sixteen_zeros}
use Rattle.machine.specs.declared.State.{State}
use Rattle.machine.specs.declared.Instruction.{Instruction}
use Rattle.machine.specs.declared.Class.{Class}
use Rattle.machine.specs.declared.Class.TheVariants.{User, Supervisor, Executive}
use Rattle.bits.specs.Bits.{weight}
use Rattle.machine.specs.State.{Processor, reset_state, with_core, with_clock, with_ic, with_pi, with_hold}
use Rattle.machine.specs.Faults.{ft_alone}
use Rattle.machine.specs.Machine.{Machine, machine, Isa, Effect, Supervised, done, refused, next_of, span_from}
use Rattle.decode.specs.Forms.{operation_of}
use Rattle.machine.specs.Entries.{chosen}
use Rattle.machine.specs.Step.{ticked, duration, step}
use Rattle.machine.specs.Runs.{run_of, number_of, admission, answers, after_runs, timeline, first_entry, before_entry}
use Rattle.machine.proofs.Opened.{machinery}
use Rattle.machine.proofs.TimelineLaws.{steps_in}
use Rattle.machine.proofs.Samples.{hundreds, core_parts, clock_parts}

-- ---- a small instruction set: a word is its own form, and the second word is the address

-- 1: a privileged command, refused from 8000 on, that sets the hold mark, page register 0 and port 0; 30: BEX; others are a user's
abbrev class_of : ℕ → Class
class_of op = cond (eqb op 1) Supervisor (cond (eqb op 30) Executive User)

-- 2 reads a word, 3 writes one, 5 does both
abbrev reads_of : List ℕ → Instruction → Span
reads_of regs i = span_from i.address (cond (eqb (operation_of i.form) 2) 1 (cond (eqb (operation_of i.form) 5) 1 0))

abbrev writes_of : List ℕ → Instruction → Span
writes_of regs i = span_from i.address (cond (eqb (operation_of i.form) 3) 1 (cond (eqb (operation_of i.form) 5) 1 0))

-- R0 gets the word read, CS 0101; BEEF is stored
abbrev execute_of : Processor → Instruction → List ℕ → Effect
execute_of p i ws = record { regs = set p.regs 0 (get_or ws 0 0); ic = next_of i; cs = 5; pi = p.core.pi; words = set sixteen_zeros 0 0xBEEF }

abbrev supervise_of : State → List ℕ → List ℕ → Instruction → List ℕ → Supervised
supervise_of s g o i ws =
    cond (ltb i.address 0x8000) (done (record { state = with_core s (with_hold (with_ic s.core (next_of i)) true); pages = set g 0 i.address; ports = set o 0 i.address }))
    (refused (ft_alone (weight 5)))

abbrev small : Isa
small = record { decode = λ w. w; class = class_of; base = λ mode p w x. x; reads = reads_of; writes = writes_of; execute = execute_of; supervise = supervise_of }

-- ---- machines

-- IC, SW, MK, PI, enabled, hold; FT is 1, the memory fault status 0770, R15 is 15, timer A at 30 runs with the remainder 60, timer B at 40 with 50 does not, and the counter is 9
abbrev state : ℕ → ℕ → ℕ → ℕ → Bool → Bool → State
state ic sw mk pi enabled hold =
    record {
      regs = set sixteen_zeros 15 15;
      core = record { ic = ic; sw = sw; mk = mk; pi = pi; faults = record { ft = 1; mfs = 0x0770 }; enabled = enabled; hold = hold };
      clock = record { ta = 30; tb = 40; rema = 60; remb = 50; taon = true; tbon = false; count = 9 };
    }

-- what every step of 100 tenths makes of the rest: the counter and timer A rise, the rest stays
abbrev rest_right : State → Bool
rest_right s = equal (get_or s.regs 15 0 ∷ clock_parts s.clock) (15 ∷ 31 ∷ 40 ∷ 60 ∷ 50 ∷ 1 ∷ 0 ∷ 10 ∷ [])

-- PI; each timer with its remainder and its mark; the counter is 9
abbrev timed : ℕ → ℕ × ℕ × Bool → ℕ × ℕ × Bool → State
timed pi a b =
    with_clock (with_core reset_state (with_pi reset_state.core pi))
    (record { ta = a.0; tb = b.0; rema = a.1; remb = b.1; taon = a.2; tbon = b.2; count = 9 })

-- durations that tell their numbers: 1,000 + n is number n
abbrev counted_up : ℕ → ℕ → List ℕ
counted_up a zero = []
counted_up a (suc n) = a ∷ counted_up (a + 1) n

abbrev numbered : List ℕ
numbered = counted_up 1000 257

-- n words d but for those given by their addresses
abbrev filled : ℕ → ℕ → List (ℕ × ℕ) → List ℕ
filled n d [] = replicate n d
filled n d ((a, w) ∷ ws) = set (filled n d ws) a w

abbrev words_at : ℕ → List (ℕ × ℕ) → List ℕ
words_at n ws = filled n 0 ws

-- IC, SW, MK, PI, FT, MFS, enabled, hold, R0, page register 0, port 0, and the words at some addresses
abbrev shown : List ℕ → Machine → List ℕ
shown places x =
    core_parts x.state.core ++ (get_or x.state.regs 0 0 ∷ get_or x.pages 0 0 ∷ get_or x.ports 0 0 ∷ map (λ a. get_or x.memory a 0) places)

-- the number of a step, the first being 1
abbrev step_of : Option ℕ → ℕ
step_of none = 0
step_of (some n) = suc n

-- ---- rows

pub data Row : Type 0 where
  -- PI, MK, enabled, hold: the interrupt that is entered, 16 for none
  choice : ℕ → ℕ → Bool → Bool → ℕ → Row
  -- the tenths of a step, PI, timers A and B with remainders and marks: PI, timers, remainders, marks and the counter at its end
  ticking : ℕ → ℕ → ℕ × ℕ × Bool → ℕ × ℕ × Bool → List ℕ → Row
  -- a state, its memory, its page registers other than F000: the number of the duration of its step
  lasting : State → List ℕ → List (ℕ × ℕ) → ℕ → Row
  -- the sizes of memory, page registers, ports and durations, the counter, the budget: the number of the answer
  asking : ℕ → ℕ → ℕ → ℕ → ℕ → ℕ → ℕ → Row
  -- a state, its memory, its page registers other than F000 (lock F, page 0), some addresses: what is shown after a step
  stepping : State → List ℕ → List (ℕ × ℕ) → List ℕ → List ℕ → Row
  -- a state, the word at 0 in a memory of illegal words, the budgets of runs: their steps, the step of the first entry (0: none) and the numbers of
  -- their answers; the runs before that entry
  running : State → ℕ → List ℕ → List ℕ → List ℕ → Row

unfoldable pub right : Row → Bool
unfolding machinery steps_in
right (choice pi mk enabled hold n) = eqb (chosen (state 0 0 mk pi enabled hold).core) n
right (ticking d pi a b r) = let s = ticked d (timed pi a b) in equal (s.core.pi ∷ clock_parts s.clock) r
right (lasting s m ps n) = eqb (duration numbered (machine s m (filled 512 0xF000 ps) (replicate 4 0))) (1000 + n)
right (asking memory pages ports durations count budget n) = eqb (number_of (admission memory pages ports durations count budget)) n
right (stepping s m ps places r) = let x = step small hundreds (machine s m (filled 512 0xF000 ps) (replicate 4 0)) in equal (shown places x) r && rest_right x.state
right (running s w bs r before) =
    let x = machine s (words_at 4096 ((0, w) ∷ [])) (replicate 512 0xF000) (replicate 1024 0) in
    let rs = map (λ b. run_of b hundreds) bs in
    let total = steps_in (timeline small rs x) in
    equal (total ∷ step_of (first_entry small rs x) ∷ map number_of (answers small rs x)) r
    && (equal (map (λ q. q.budget) (before_entry small rs x)) before && eqb (after_runs small rs x).state.clock.count (s.clock.count + total))

pub choices : List Row
choices =
    choice 0xFFFF 0 false false 0
    ∷ choice 0x7FFF 0 false false 5
    ∷ choice 0x7FFF 0 true false 5
    ∷ choice 0x7FFF 0x4000 false false 1
    ∷ choice 0x3BFF 0xFFFF false false 16
    ∷ choice 0x3BFF 0xFFFF true false 2
    ∷ choice 0x3BFF 0x4001 true false 15
    ∷ choice 0x0100 0x0100 true false 7
    ∷ choice 0x0100 0x0040 true false 16
    ∷ choice 0xFFFF 0xFFFF true true 16
    ∷ choice 0 0xFFFF true false 16
    ∷ []

-- 656 rises: of 65,535 tenths and a remainder of 99; 1,310 of a remainder that no step leaves
pub ticks : List Row
ticks =
    ticking 100 0 (7, 0, true) (7, 800, true) (0 ∷ 8 ∷ 7 ∷ 0 ∷ 900 ∷ 1 ∷ 1 ∷ 10 ∷ [])
    ∷ ticking 100 0 (7, 0, true) (7, 900, true) (0 ∷ 8 ∷ 8 ∷ 0 ∷ 0 ∷ 1 ∷ 1 ∷ 10 ∷ [])
    ∷ ticking 37 0 (7, 62, true) (7, 962, true) (0 ∷ 7 ∷ 7 ∷ 99 ∷ 999 ∷ 1 ∷ 1 ∷ 10 ∷ [])
    ∷ ticking 37 0 (7, 63, true) (7, 963, true) (0 ∷ 8 ∷ 8 ∷ 0 ∷ 0 ∷ 1 ∷ 1 ∷ 10 ∷ [])
    ∷ ticking 0 0 (7, 99, true) (7, 999, true) (0 ∷ 7 ∷ 7 ∷ 99 ∷ 999 ∷ 1 ∷ 1 ∷ 10 ∷ [])
    ∷ ticking 0 0 (7, 100, true) (7, 1000, true) (0 ∷ 8 ∷ 8 ∷ 0 ∷ 0 ∷ 1 ∷ 1 ∷ 10 ∷ [])
    ∷ ticking 1000 0 (7, 60, false) (7, 60, true) (0 ∷ 7 ∷ 8 ∷ 60 ∷ 60 ∷ 0 ∷ 1 ∷ 10 ∷ [])
    ∷ ticking 1000 0 (7, 60, true) (7, 60, false) (0 ∷ 17 ∷ 7 ∷ 60 ∷ 60 ∷ 1 ∷ 0 ∷ 10 ∷ [])
    ∷ ticking 65535 0 (7, 65535, false) (7, 65535, false) (0 ∷ 7 ∷ 7 ∷ 65535 ∷ 65535 ∷ 0 ∷ 0 ∷ 10 ∷ [])
    ∷ ticking 100 0x8000 (0xFFFF, 0, true) (0xFFFF, 900, true) (0x8140 ∷ 0 ∷ 0 ∷ 0 ∷ 0 ∷ 1 ∷ 1 ∷ 10 ∷ [])
    ∷ ticking 99 0 (0xFFFF, 0, true) (0xFFFF, 900, true) (0 ∷ 0xFFFF ∷ 0xFFFF ∷ 99 ∷ 999 ∷ 1 ∷ 1 ∷ 10 ∷ [])
    ∷ ticking 100 0 (0xFFFF, 0, false) (0xFFFF, 900, true) (0x0040 ∷ 0xFFFF ∷ 0 ∷ 0 ∷ 0 ∷ 0 ∷ 1 ∷ 10 ∷ [])
    ∷ ticking 65535 0 (0xFFF0, 99, true) (0xFFFF, 999, true) (0x0140 ∷ 0x0280 ∷ 0x0041 ∷ 34 ∷ 534 ∷ 1 ∷ 1 ∷ 10 ∷ [])
    ∷ ticking 65535 0 (0xFAE2, 65535, true) (0xFF7D, 65535, true) (0x0140 ∷ 0 ∷ 0 ∷ 70 ∷ 70 ∷ 1 ∷ 1 ∷ 10 ∷ [])
    ∷ ticking 65535 0 (0xFAE1, 65535, true) (0xFF7C, 65535, true) (0 ∷ 0xFFFF ∷ 0xFFFF ∷ 70 ∷ 70 ∷ 1 ∷ 1 ∷ 10 ∷ [])
    ∷ []

pub checks : List Row
checks =
    asking 4096 512 1024 257 0 0 0
    ∷ asking 1048576 512 1024 257 4293967295 1000000 0
    ∷ asking 0 512 1024 257 0 0 1
    ∷ asking 4095 512 1024 257 0 0 1
    ∷ asking 6144 512 1024 257 0 0 1
    ∷ asking 1052672 512 1024 257 0 0 1
    ∷ asking 4096 511 1024 257 0 0 2
    ∷ asking 4096 513 1024 257 0 0 2
    ∷ asking 4096 512 1023 257 0 0 3
    ∷ asking 4096 512 1025 257 0 0 3
    ∷ asking 4096 512 1024 0 0 0 17
    ∷ asking 4096 512 1024 256 0 2000000 17
    ∷ asking 4096 512 1024 258 0 0 17
    ∷ asking 4096 512 1024 257 0 1000001 4
    ∷ asking 4096 512 1024 257 4293967296 1000000 5
    ∷ asking 4096 512 1024 257 4294967295 1 5
    ∷ asking 4096 512 1024 257 4294967295 0 0
    ∷ asking 4097 0 0 0 4294967295 1000001 1
    ∷ asking 4096 0 0 0 4294967295 1000001 2
    ∷ asking 4096 512 0 0 4294967295 1000001 3
    ∷ asking 4096 512 1024 0 4294967295 1000001 17
    ∷ asking 4096 512 1024 257 4294967295 1000001 4
    ∷ []

-- interrupt 0: linkage pointer 50, service pointer 53; from there MK 1111, SW 0002, IC 3333
abbrev vector0 : List ℕ
vector0 = words_at 64 ((32, 50) ∷ (33, 53) ∷ (53, 0x1111) ∷ (54, 2) ∷ (55, 0x3333) ∷ [])

-- the words of an entry as they are shown: MK, SW and IC at 50, 51, 52
abbrev link : List ℕ
link = 50 ∷ 51 ∷ 52 ∷ []

pub entries : List Row
entries =
    -- interrupt 0 under key 1: with key 0 no lock below F refuses; PI bit 0 alone is cleared, interrupts are disabled
    stepping (state 5 0xA010 0x0ACE 0xA000 true false) vector0 ((256, 0x3000) ∷ (288, 0x4000) ∷ []) link (0x3333 ∷ 2 ∷ 0x1111 ∷ 0x2000 ∷ 1 ∷ 0x0770 ∷ 0 ∷ 0 ∷ 0 ∷ 0xF000 ∷ 0 ∷ 0x0ACE ∷ 0xA010 ∷ 5 ∷ [])
    -- the hold mark: an instruction runs, here an illegal one, which uses the mark up
    ∷ stepping (state 5 0xA010 0x0ACE 0xA000 true true) vector0 [] link (6 ∷ 0xA010 ∷ 0x0ACE ∷ 0xE000 ∷ 0x0041 ∷ 0x0770 ∷ 1 ∷ 0 ∷ 0 ∷ 0xF000 ∷ 0 ∷ 0 ∷ 0 ∷ 0 ∷ [])
    -- the stores go by address state 2 of the new SW: its page 0 has W 1; the entry goes on
    ∷ stepping (state 5 0xA010 0x0ACE 0xA000 true false) vector0 ((288, 0x0800) ∷ []) link (0x3333 ∷ 2 ∷ 0x1111 ∷ 0x6000 ∷ 0x8001 ∷ 0x0002 ∷ 0 ∷ 0 ∷ 0 ∷ 0xF000 ∷ 0 ∷ 0 ∷ 0 ∷ 0 ∷ [])
    -- and not by address state 0, whose page 0 has W 1
    ∷ stepping (state 5 0xA010 0x0ACE 0xA000 true false) vector0 ((256, 0x0800) ∷ []) link (0x3333 ∷ 2 ∷ 0x1111 ∷ 0x2000 ∷ 1 ∷ 0x0770 ∷ 0 ∷ 0 ∷ 0 ∷ 0xF000 ∷ 0 ∷ 0x0ACE ∷ 0xA010 ∷ 5 ∷ [])
    -- linkage pointer FFFE: the third word, at 0000, has W 1, and the first two are not stored either
    ∷ stepping (state 5 0xA010 0x0ACE 0xA000 true false) (words_at 4096 ((32, 0xFFFE) ∷ (33, 53) ∷ (53, 0x1111) ∷ (54, 2) ∷ (55, 0x3333) ∷ [])) ((288, 0x0800) ∷ []) (4094 ∷ 4095 ∷ 0 ∷ [])
    (0x3333 ∷ 2 ∷ 0x1111 ∷ 0x6000 ∷ 0x8001 ∷ 0x0002 ∷ 0 ∷ 0 ∷ 0 ∷ 0xF000 ∷ 0 ∷ 0 ∷ 0 ∷ 0 ∷ [])
    -- service pointer FFFF: MK at FFFF, SW at 0000, IC at 0001
    ∷ stepping (state 5 0xA010 0x0ACE 0xA000 true false) (words_at 4096 ((32, 50) ∷ (33, 0xFFFF) ∷ (4095, 0x1111) ∷ (0, 2) ∷ (1, 0x3333) ∷ [])) [] link
    (0x3333 ∷ 2 ∷ 0x1111 ∷ 0x2000 ∷ 1 ∷ 0x0770 ∷ 0 ∷ 0 ∷ 0 ∷ 0xF000 ∷ 0 ∷ 0x0ACE ∷ 0xA010 ∷ 5 ∷ [])
    -- interrupt 1, service pointer in a page beyond the memory: MK, SW and IC count as 0, and 1 pends again
    ∷ stepping (state 7 0x0035 0x4000 0x4000 false false) (words_at 64 ((34, 50) ∷ (35, 0x1000) ∷ [])) ((257, 1) ∷ []) link (0 ∷ 0 ∷ 0 ∷ 0x4000 ∷ 0x0081 ∷ 0x1000 ∷ 0 ∷ 0 ∷ 0 ∷ 0xF000 ∷ 0 ∷ 0x4000 ∷ 0x0035 ∷ 7 ∷ [])
    -- every word refused, the stores too
    ∷ stepping (state 5 0xA010 0x0ACE 0xA000 true false) vector0 ((256, 0x00FF) ∷ []) link (0 ∷ 0 ∷ 0 ∷ 0x6000 ∷ 0x0081 ∷ 0x0000 ∷ 0 ∷ 0 ∷ 0 ∷ 0xF000 ∷ 0 ∷ 0 ∷ 0 ∷ 0 ∷ [])
    -- BEX 14 at 5, past the hold mark: IC from the word 2 + 14 after the service pointer, the IC stored is 6, PI bit 5 is clear
    ∷ stepping (state 5 0xA010 0x0ACE 0x2400 true true) (words_at 128 ((5, 0x101E) ∷ (42, 50) ∷ (43, 60) ∷ (60, 0x1111) ∷ (61, 2) ∷ (76, 0x3333) ∷ [])) [] link
    (0x3333 ∷ 2 ∷ 0x1111 ∷ 0x2000 ∷ 1 ∷ 0x0770 ∷ 0 ∷ 0 ∷ 0 ∷ 0xF000 ∷ 0 ∷ 0x0ACE ∷ 0xA010 ∷ 6 ∷ [])
    ∷ []

-- a two-word instruction at 5, or at FFFF, and the word at 40
abbrev at5 : ℕ → ℕ → ℕ → List ℕ
at5 w x v = words_at 64 ((5, w) ∷ (6, x) ∷ (40, v) ∷ [])

abbrev at_end : ℕ → List ℕ
at_end w = words_at 4096 ((4095, w) ∷ [])

pub instructions : List Row
instructions =
    -- the first fetch is refused: IC + 1
    stepping (state 5 0 0 0 false false) (at5 0x2002 40 7) ((0, 0xF800) ∷ []) [] (6 ∷ 0 ∷ 0 ∷ 0x4000 ∷ 0x8001 ∷ 0x0010 ∷ 0 ∷ 0 ∷ 0 ∷ 0xF800 ∷ 0 ∷ [])
    -- privileged, before the second fetch, which page 0 would refuse: IC + 1, modulo 65,536
    ∷ stepping (state 0xFFFF 0x0020 0 0 false false) (at_end 0x2001) ((0, 0xF800) ∷ []) [] (0 ∷ 0x0020 ∷ 0 ∷ 0x4000 ∷ 0x0021 ∷ 0x0770 ∷ 0 ∷ 0 ∷ 0 ∷ 0xF800 ∷ 0 ∷ [])
    -- the second fetch is refused: IC + 2
    ∷ stepping (state 0xFFFF 0x0020 0 0 false false) (at_end 0x2002) ((0, 0xF800) ∷ []) [] (1 ∷ 0x0020 ∷ 0 ∷ 0x4000 ∷ 0x8001 ∷ 0x0010 ∷ 0 ∷ 0 ∷ 0 ∷ 0xF800 ∷ 0 ∷ [])
    -- direct and indirect
    ∷ stepping (state 5 0 0 0 false false) (at5 0x2602 40 5) [] [] (7 ∷ 0x5000 ∷ 0 ∷ 0 ∷ 1 ∷ 0x0770 ∷ 0 ∷ 0 ∷ 5 ∷ 0xF000 ∷ 0 ∷ [])
    ∷ stepping (state 5 0 0 0 false false) (at5 0x2702 40 5) [] [] (7 ∷ 0x5000 ∷ 0 ∷ 0 ∷ 1 ∷ 0x0770 ∷ 0 ∷ 0 ∷ 0x2702 ∷ 0xF000 ∷ 0 ∷ [])
    -- the indirect word is looked up in the operand set, whose page 1 has lock 3: key 2 is refused, key 3 passes
    ∷ stepping (state 5 0x0020 0 0 false false) (at5 0x2702 0x1028 5) ((257, 0x3000) ∷ []) [] (7 ∷ 0x0020 ∷ 0 ∷ 0x4000 ∷ 0x8001 ∷ 0x1000 ∷ 0 ∷ 0 ∷ 0 ∷ 0xF000 ∷ 0 ∷ [])
    ∷ stepping (state 5 0x0030 0 0 false false) (at5 0x2702 0x1028 5) ((257, 0x3000) ∷ []) [] (7 ∷ 0x5030 ∷ 0 ∷ 0 ∷ 1 ∷ 0x0770 ∷ 0 ∷ 0 ∷ 0x2702 ∷ 0xF000 ∷ 0 ∷ [])
    -- a read and a write of a page with W 1 beyond the memory: the read is checked first
    ∷ stepping (state 5 0 0 0 false false) (at5 0x2605 0x1028 5) ((257, 0x08FF) ∷ []) [] (7 ∷ 0 ∷ 0 ∷ 0x4000 ∷ 0x0081 ∷ 0x1000 ∷ 0 ∷ 0 ∷ 0 ∷ 0xF000 ∷ 0 ∷ [])
    -- the write alone is refused: nothing happens
    ∷ stepping (state 5 0 0 0 false false) (at5 0x2605 40 5) ((256, 0x0800) ∷ []) (40 ∷ []) (7 ∷ 0 ∷ 0 ∷ 0x4000 ∷ 0x8001 ∷ 0x0000 ∷ 0 ∷ 0 ∷ 0 ∷ 0xF000 ∷ 0 ∷ 5 ∷ [])
    -- neither is: of SW CS alone changes
    ∷ stepping (state 5 0xFA21 0 0 false false) (at5 0x2605 40 5) [] (40 ∷ []) (7 ∷ 0x5A21 ∷ 0 ∷ 0 ∷ 1 ∷ 0x0770 ∷ 0 ∷ 0 ∷ 5 ∷ 0xF000 ∷ 0 ∷ 0xBEEF ∷ [])
    -- a fault of a one-word instruction: IC + 1
    ∷ stepping (state 5 0 0 0 false false) (at5 0x1005 0 0) ((256, 0x00FF) ∷ []) [] (6 ∷ 0 ∷ 0 ∷ 0x4000 ∷ 0x0081 ∷ 0x0000 ∷ 0 ∷ 0 ∷ 0 ∷ 0xF000 ∷ 0 ∷ [])
    -- a command refused, and one done
    ∷ stepping (state 5 0 0 0 false false) (at5 0x2001 0x9000 0) [] [] (7 ∷ 0 ∷ 0 ∷ 0x4000 ∷ 0x0401 ∷ 0x0770 ∷ 0 ∷ 0 ∷ 0 ∷ 0xF000 ∷ 0 ∷ [])
    ∷ stepping (state 5 0 0 0 false false) (at5 0x2001 0x0123 0) [] [] (7 ∷ 0 ∷ 0 ∷ 0 ∷ 1 ∷ 0x0770 ∷ 0 ∷ 1 ∷ 0 ∷ 0x0123 ∷ 0x0123 ∷ [])
    ∷ []

-- the duration of a step
pub durations : List Row
durations =
    -- an interrupt is entered, whatever stands at IC; the hold mark lets the instruction run
    lasting (state 5 0 0 0x8000 false false) (at5 0x2602 40 5) [] 256
    ∷ lasting (state 5 0 0 0x8000 false true) (at5 0x2602 40 5) [] 0x26
    -- the fetch of the first word is refused: by E, by a lock, by the memory's end
    ∷ lasting (state 5 0 0 0 false false) (at5 0x2602 40 5) ((0, 0xF800) ∷ []) 256
    ∷ lasting (state 5 0x0020 0 0 false false) (at5 0x2602 40 5) ((0, 0x3000) ∷ []) 256
    ∷ lasting (state 64 0 0 0 false false) (at5 0x2602 40 5) [] 256
    -- an illegal word, a privileged one under key 2, a refused second word, a refused operand, a refused command
    ∷ lasting (state 0 0 0 0 false false) (at5 0x2602 40 5) [] 0
    ∷ lasting (state 5 0x0020 0 0 false false) (at5 0x2001 0 0) [] 0x20
    ∷ lasting (state 0xFFFF 0 0 0 false false) (at_end 0x2002) ((0, 0xF800) ∷ []) 0x20
    ∷ lasting (state 5 0 0 0 false false) (at5 0xFE05 40 5) ((256, 0x0800) ∷ []) 0xFE
    ∷ lasting (state 5 0 0 0 false false) (at5 0x2001 0x9000 0) [] 0x20
    -- BEX
    ∷ lasting (state 5 0 0 0 false false) (at5 0x101E 0 0) [] 0x10
    ∷ []

pub runs : List Row
runs =
    -- the illegal instruction of the first step pends interrupt 1, which the fourth run enters
    running (state 0 0 0x4000 0 false false) 0 (1 ∷ 0 ∷ 1000001 ∷ 2 ∷ 1 ∷ []) (4 ∷ 2 ∷ 0 ∷ 0 ∷ 4 ∷ 0 ∷ 0 ∷ []) (1 ∷ 0 ∷ 1000001 ∷ [])
    -- with its mask bit clear nothing is entered
    ∷ running (state 0 0 0 0 false false) 0 (1 ∷ 1000001 ∷ 2 ∷ []) (3 ∷ 0 ∷ 0 ∷ 4 ∷ 0 ∷ []) (1 ∷ 1000001 ∷ 2 ∷ [])
    -- BEX is an entry
    ∷ running (state 0 0 0 0 false false) 0x101E (0 ∷ 2 ∷ []) (2 ∷ 1 ∷ 0 ∷ 0 ∷ []) (0 ∷ [])
    ∷ []

pub rows : List Row
rows = choices ++ ticks ++ checks ++ entries ++ instructions ++ durations ++ runs

pub rows-hold : T (all_of right rows)
unfolding right rows choices ticks checks entries instructions durations runs
rows-hold = tt
