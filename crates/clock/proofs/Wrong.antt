-- Two wrong answers of each contract that other crates call, beside the right one, which the checker computes. Assumes nothing.
use Rattle.std.proofs.Common.{ℕ, true, T, List, [], ◌∷◌, get_or, set, replicate, Ok}
use lib.Bits.{bit_or}
use Rattle.choice.proofs.Rows.{Row, one, some, hold, flag}
use Rattle.page.specs.Pages.{refusal}
use Rattle.machine.specs.declared.Core.{Core}
use Rattle.machine.specs.declared.Clock.{Clock}
use Rattle.machine.specs.State.{with_pi}
use Rattle.machine.specs.Step.{released, faulted, elapsed, expired, timed_by}
use Rattle.machine.proofs.Opened.{machinery}
use Rattle.clock.specs.Deferred.{after_ticks, longest_to, longest_of, ticks_left, deferrable_of}

-- timer A has room for 570 tenths, timer B for 2,900
abbrev c : Clock
c = record { ta = 65530; tb = 65533; rema = 29; remb = 99; taon = true; tbon = true; count = 5 }

-- in the next step of 100 tenths timer A passes its end, and timer B does not rise
abbrev d : Clock
d = record { ta = 65535; tb = 20; rema = 0; remb = 800; taon = true; tbon = true; count = 8 }

-- durations of opcodes 10, 80 and FF and of an entry; the others are 0
abbrev e : List ℕ
e = set (set (set (set (replicate 257 0) 0x10 5) 0x80 37) 0xFF 7) 256 9

-- the timers with their remainders, and the counter
abbrev time : Clock → List ℕ
time t = t.ta ∷ t.tb ∷ t.rema ∷ t.remb ∷ t.count ∷ []

abbrev core : Core
core = record { ic = 0x0100; sw = 0; mk = 0; pi = 0x0400; faults = record { ft = 0x0100; mfs = 0xC005 }; enabled = true; hold = true }

pub rows : List Row
unfolding machinery after_ticks longest_to longest_of ticks_left deferrable_of
rows =
    -- durations::duration_of: by the low byte of the first word; by the last number
    one (get_or e (timed_by (Ok 0x8010)) 0) 37 5 9
    -- durations::entry_duration: that of opcode FF; that of opcode 00
    ∷ one (get_or e 256 0) 9 7 0
    -- durations::longest: the last duration; 0 where all are 0
    ∷ some (longest_of e ∷ longest_of (replicate 257 0) ∷ []) (37 ∷ 1 ∷ []) (9 ∷ 1 ∷ []) (37 ∷ 0 ∷ [])
    -- deferred::tick_by: the counter raised by one alone; the remainder of timer A added to that of timer B
    ∷ some (time (after_ticks 5 500 c)) (65535 ∷ 65533 ∷ 29 ∷ 599 ∷ 10 ∷ []) (65535 ∷ 65533 ∷ 29 ∷ 599 ∷ 6 ∷ []) (65535 ∷ 65533 ∷ 29 ∷ 628 ∷ 10 ∷ [])
    -- deferred::deferrable: timer A not asked; a tick in which timer A passes its end
    ∷ one (deferrable_of c 100 100) 5 29 6
    -- time::release: the hold mark kept; interrupts disabled
    ∷ some (let t = released core in flag t.hold ∷ flag t.enabled ∷ []) (0 ∷ 1 ∷ []) (1 ∷ 1 ∷ []) (0 ∷ 0 ∷ [])
    -- time::fault: PI bit 0 in place of bit 1; the old memory fault status kept
    ∷ some (let t = faulted core (refusal 0x8000 0x1003) 0x0102 in t.ic ∷ t.pi ∷ t.faults.ft ∷ t.faults.mfs ∷ [])
    (0x0102 ∷ 0x4400 ∷ 0x8100 ∷ 0x1003 ∷ []) (0x0102 ∷ 0x8400 ∷ 0x8100 ∷ 0x1003 ∷ []) (0x0102 ∷ 0x4400 ∷ 0x8100 ∷ 0xC005 ∷ [])
    -- time::pend: the old bits of PI lost; one of the new bits lost
    ∷ one (with_pi core (bit_or core.pi 0x0140)).pi 0x0540 0x0140 0x0440
    -- time::elapse: the remainder of timer B dropped; timer A left at its end
    ∷ some (time (elapsed 100 d)) (0 ∷ 20 ∷ 0 ∷ 900 ∷ 9 ∷ []) (0 ∷ 20 ∷ 0 ∷ 100 ∷ 9 ∷ []) (65535 ∷ 20 ∷ 0 ∷ 900 ∷ 9 ∷ [])
    -- time::expire: PI bit 8 for timer A; a bit for timer B, which does not rise
    ∷ one (expired 100 d) 0x0100 0x0080 0x0140
    ∷ []

pub rows-hold : T (hold rows)
unfolding rows machinery after_ticks longest_to longest_of ticks_left deferrable_of
rows-hold = tt
