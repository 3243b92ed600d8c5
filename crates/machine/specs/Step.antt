-- One step (Scope, "One step"), for any instruction set: what it does is found out first, as data; then it is done. Assumes nothing.
use Rattle.std.specs.Prelude.{ℕ, ◌+◌, ◌/◌, ◌%◌, Bool, true, false, cond, ◌&&◌, List, ltb, leb, length, get_or, Err, Ok, Result}
use Rattle.std.specs.Int.Bits.{bit_or}
use Rattle.page.specs.declared.Span.{Span}
use Rattle.page.specs.declared.Refusal.{Refusal}
use Rattle.page.specs.Spans.{wrapped, written}
use Rattle.machine.specs.declared.State.{State}
use Rattle.machine.specs.declared.Core.{Core}
use Rattle.machine.specs.declared.Clock.{Clock}
use Rattle.machine.specs.declared.Vector.{Vector}
use Rattle.bits.specs.Bits.{weight}
use Rattle.machine.specs.State.{key_of, group_of, with_cs, advanced, Processor, joined, processor, with_processor, with_core, with_clock, with_ic, with_pi, updated, with_faults, with_hold}
use Rattle.machine.specs.Faults.{recorded}
use Rattle.machine.specs.Machine.{Machine, machine, Isa, Effect}
use Rattle.machine.specs.Instructions.{Action, enter, call, fail, affect, govern, View, view, instructed}
use Rattle.machine.specs.Entries.{chosen, vector_of, call_of, linked, link_stored, stored_after, arrived}

-- ---- what is done

-- the hold mark is cleared
unfoldable pub released : Core → Core
released c = with_hold c false

-- the state from which a step acts: its hold mark is cleared
unfoldable pub begun_from : State → State
begun_from s = with_core s (released s.core)

-- a fault b sets its FT bit and PI bit 1; of the instruction nothing but IC is left
unfoldable pub faulted : Core → Refusal → ℕ → Core
faulted c b a = with_faults (with_pi (with_ic c a) (bit_or c.pi (weight 1))) (recorded c.faults b)

-- a user's effect: of SW it changes CS alone
unfoldable pub affected : Processor → Effect → Processor
affected p e = joined (updated p.core e.ic (with_cs p.core.sw e.cs) e.pi) e.regs

-- its stores
unfoldable pub stored : Core → List ℕ → List ℕ → Effect → Span → List ℕ
stored c m g e p = written (key_of c.sw) (group_of c.sw) g (length m) p e.words m

-- the entry of interrupt n by the vector v, from the core c
unfoldable pub entered : State → Core → List ℕ → List ℕ → List ℕ → ℕ → Vector → Machine
entered s c m g o n v =
    let stores = linked m g v in
    machine (with_core s (arrived c n v (stored_after v.fault stores))) (link_stored c m g v stores) g o

-- BEX is an entry of interrupt 5, from the IC after it; a user's effect leaves page registers and ports
unfoldable pub perform : State → List ℕ → List ℕ → List ℕ → Action → Machine
perform s m g o (enter n) = entered s s.core m g o n (vector_of m g n)
perform s m g o (call n) = entered s (with_ic s.core (advanced s.core 1)) m g o 5 (call_of m g n)
perform s m g o (fail b a) = machine (with_core s (faulted s.core b a)) m g o
perform s m g o (affect e p) = machine (with_processor s (affected (processor s) e)) (stored s.core m g e p) g o
perform s m g o (govern r) = machine r.state m r.pages r.ports

-- ---- last: the counter, then the timers, over the duration d of the step in tenths of a microsecond (change request 3)

-- the counter after it rose; no accepted run lets it pass the end of its 32 bits
unfoldable pub counted : Clock → ℕ
counted k = (k.count + 1) % 4294967296

-- the tenths of one rise: "A rises once per 100 tenths, B once per 1,000" (5.1: timer A counts 10 microseconds, timer B 100)
abbrev pub unit_a : ℕ
unit_a = 100

abbrev pub unit_b : ℕ
unit_b = 1000

-- how often a timer with the unit u and the remainder r rises in d tenths
unfoldable pub rises : ℕ → ℕ → ℕ → ℕ
rises u r d = (r + d) / u

-- its remainder after them, where it runs; "halting keeps the remainder"
unfoldable pub remaining : Bool → ℕ → ℕ → ℕ → ℕ
remaining on u r d = cond on ((r + d) % u) r

-- a timer at t that rises n times, where it runs
unfoldable pub risen : Bool → ℕ → ℕ → ℕ
risen on t n = cond on (wrapped (t + n)) t

-- PI bit k, where it passes FFFF to 0000
unfoldable pub passing : Bool → ℕ → ℕ → ℕ → ℕ
passing on t n k = cond (on && leb 65536 (t + n)) (weight k) 0

-- the clock at the end of a step
unfoldable pub elapsed : ℕ → Clock → Clock
elapsed d k =
    record {
      ta = risen k.taon k.ta (rises unit_a k.rema d);
      tb = risen k.tbon k.tb (rises unit_b k.remb d);
      rema = remaining k.taon unit_a k.rema d;
      remb = remaining k.tbon unit_b k.remb d;
      taon = k.taon;
      tbon = k.tbon;
      count = counted k;
    }

-- the PI bits of the timers that pass their end there
unfoldable pub expired : ℕ → Clock → ℕ
expired d k = bit_or (passing k.taon k.ta (rises unit_a k.rema d) 7) (passing k.tbon k.tb (rises unit_b k.remb d) 9)

-- the state at the end of a step
unfoldable pub ticked : ℕ → State → State
ticked d s = with_clock (with_core s (with_pi s.core (bit_or s.core.pi (expired d s.clock)))) (elapsed d s.clock)

unfoldable pub tick : ℕ → Machine → Machine
tick d x = machine (ticked d x.state) x.memory x.pages x.ports

-- ---- how long a step takes, by a list of 257 durations: "one per opcode and a last one for interrupt entry", which is number 256

-- the number of its duration, by the first word: the high byte is the opcode, whatever comes of it. "A step that fetched no first word takes the entry's duration"
unfoldable pub timed_by : Result ℕ Refusal → ℕ
timed_by (Ok w) = w / 256 % 256
timed_by (Err b) = 256

-- by whether an interrupt is entered: then no word is fetched
unfoldable pub timing : Core → View → Bool → ℕ
timing c v true = 256
timing c v false = timed_by (v.fetch c.ic)

unfoldable pub duration : List ℕ → Machine → ℕ
duration d x = get_or d (timing x.state.core (view x.state.core x.memory x.pages) (ltb (chosen x.state.core) 16)) 0

-- ---- the step

-- an entry is a step of kind 1 that enters, or one that runs BEX (the Scope's term)
unfoldable pub is_entry : Action → Bool
is_entry (enter n) = true
is_entry (call n) = true
is_entry (fail b a) = false
is_entry (affect e p) = false
is_entry (govern r) = false

module _ (isa : Isa) where
  -- whether there is an interrupt n to enter; otherwise one instruction runs
  unfoldable pub begun : State → List ℕ → List ℕ → View → ℕ → Bool → Action
  begun s g o v n true = enter n
  begun s g o v n false = instructed isa s g o v

  -- what a step does
  unfoldable pub action : Machine → Action
  action x =
      let s = begun_from x.state in
      begun s x.pages x.ports (view s.core x.memory x.pages) (chosen x.state.core) (ltb (chosen x.state.core) 16)

  -- with the durations d; the hold mark is cleared for an instruction, and is clear already where an interrupt is entered
  unfoldable pub step : List ℕ → Machine → Machine
  step d x = tick (duration d x) (perform (begun_from x.state) x.memory x.pages x.ports (action x))
