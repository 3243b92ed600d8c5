-- The rule of the timers before change request 3 (Scope, "One step", 6), kept beside the present one: `proofs/OldTimerLaws` says where both agree. No contract cites it.
-- Assumes nothing.
use Rattle.std.specs.Prelude.{ℕ, zero, suc, ◌*◌, ◌%◌, ◌<◌, ◌≡◌, Bool, true, ◌&&◌, List, eqb, replicate}
use Rattle.std.specs.Int.Bits.{bit_or}
use Rattle.machine.specs.declared.State.{State}
use Rattle.machine.specs.declared.Clock.{Clock}
use Rattle.machine.specs.State.{with_core, with_clock, with_pi}
use Rattle.machine.specs.Machine.{Machine, machine, Isa}
use Rattle.machine.specs.Step.{begun_from, perform, counted, risen, passing, action, step}

-- ---- the old rule

-- a running timer B rises when the counter, as it rose, is a multiple of 10
unfoldable pub rises_b : Clock → Bool
rises_b k = k.tbon && eqb (counted k % 10) 0

-- the clock at the end of a step; there were no remainders: those here are what steps of 100 tenths leave
unfoldable pub old_elapsed : Clock → Clock
old_elapsed k =
    record {
      ta = risen k.taon k.ta 1;
      tb = risen (rises_b k) k.tb 1;
      rema = 0;
      remb = counted k % 10 * 100;
      taon = k.taon;
      tbon = k.tbon;
      count = counted k;
    }

unfoldable pub old_ticked : State → State
old_ticked s =
    with_clock (with_core s (with_pi s.core (bit_or s.core.pi (bit_or (passing s.clock.taon s.clock.ta 1 7) (passing (rises_b s.clock) s.clock.tb 1 9))))) (old_elapsed s.clock)

-- ---- steps, and what they may not do

-- every duration 100, as the program has them
abbrev pub hundreds : List ℕ
hundreds = replicate 257 100

-- timer B runs, and the remainders are those that steps of 100 tenths leave from reset on
pub record Steady (k : Clock) : Type 0 where
  pub b-runs : k.tbon ≡ true
  pub b-small : k.tb < 65536
  pub a-rest : k.rema ≡ 0
  pub b_rest : k.remb ≡ k.count % 10 * 100

-- timer B, its mark and its remainder are left, and so is the counter, which is the tick's alone. Timer A may be started, halted or set: its remainder is 0
pub record Left (k l : Clock) : Type 0 where
  pub timer : l.tb ≡ k.tb
  pub mark : l.tbon ≡ k.tbon
  pub rest : l.remb ≡ k.remb
  pub a-rest : l.rema ≡ k.rema
  pub counter : l.count ≡ k.count

module _ (isa : Isa) where
  -- the machine before the tick of its step
  unfoldable pub performed : Machine → Machine
  performed x = perform (begun_from x.state) x.memory x.pages x.ports (action isa x)

  unfoldable pub old_step : Machine → Machine
  old_step x = let y = performed x in machine (old_ticked y.state) y.memory y.pages y.ports

  unfoldable pub old_steps : ℕ → Machine → Machine
  old_steps zero x = x
  old_steps (suc n) x = old_steps n (old_step x)

  -- none of the first n steps halts or sets timer B
  unfoldable pub LeaveB : ℕ → Machine → Type 0
  LeaveB zero x = Unit {0}
  LeaveB (suc n) x = Left x.state.clock (performed x).state.clock × LeaveB n (step isa hundreds x)
