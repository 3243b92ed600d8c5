-- "The program uses 100 for all 257, so an image that neither halts nor sets timer B prints what it did before" (change request 3): with 100 tenths a step, steps that leave
-- timer B are those of the old rule. For any instruction set. Assumes nothing.
use Rattle.std.proofs.Common.{Result, Ok, Err}
use Prim.Native.Nat.{ℕ, zero, suc, ◌+◌, ◌*◌, ◌/◌, ◌%◌, ◌≤◌, ◌<◌}
use Rattle.page.specs.declared.Refusal.{Refusal}
use mathlib.Core.Path.{◌≡◌, refl, sym, ap, ap₂, subst, ◌∙◌}
use mathlib.Core.Bool.{Bool, true, false, cond}
use mathlib.Core.List.{List}
use mathlib.Core.Logic.{◌≢◌}
use native.Mathlib.Omega.{arith}
use native.Mathlib.Nat.{mod-eq_of_lt}
use lib.Bits.{bit_or}
use lib.Dec.{eqb, ltb}
use borrow.Author.Tests.{eqb-true, eqb-false, ne_eqb, lt-leb, ltb-false}
use Rattle.page.specs.Spans.{wrapped}
use Rattle.decode.specs.Forms.{operation_of}
use Rattle.machine.specs.declared.Denial.{Denial}
use Rattle.machine.specs.declared.State.{State}
use Rattle.machine.specs.declared.Clock.{Clock}
use Rattle.machine.specs.declared.Instruction.{Instruction}
use Rattle.machine.specs.declared.Class.{Class}
use Rattle.machine.specs.declared.Class.TheVariants.{User, Supervisor, Executive}
use Rattle.machine.specs.State.{with_pi, reset_state, processor}
use Rattle.machine.specs.Machine.{Machine, machine, Isa, System, Supervised, done, refused}
use Rattle.machine.specs.Instructions.{Action, enter, call, fail, affect, govern, View, view, prepared, supervised, operated, accessed, carried, instructed}
use Rattle.machine.specs.Entries.{chosen}
use Rattle.machine.specs.Step.{begun_from, entered, perform, begun, action, counted, rises, remaining, risen, passing, elapsed, expired, ticked, tick, step}
use Rattle.machine.specs.Runs.{steps}
use Rattle.machine.specs.OldTimers.{rises_b, old_elapsed, old_ticked, hundreds, Steady, performed, old_step, old_steps, Left, LeaveB}
use Rattle.machine.proofs.InstructionLaws.{OnDone, Governed}
use Rattle.machine.proofs.DurationLaws.{duration-alike}
use Rattle.machine.proofs.RunLaws.{steps-zero, steps-suc}

-- ---- one tick of 100 tenths

-- the last digit of the next number
next-digit : (c : ℕ) → c % 10 ≢ 9 → (c + 1) % 10 ≡ c % 10 + 1
next-digit c h = omega arith

next-zero : (c : ℕ) → c % 10 ≡ 9 → (c + 1) % 10 ≡ 0
next-zero c h = omega arith

-- a remainder of r hundreds, below ten, and one more
hundreds-below : (r : ℕ) → r < 9 → ((r * 100 + 100) / 1000 ≡ 0) × ((r * 100 + 100) % 1000 ≡ (r + 1) * 100)
hundreds-below r h = (omega arith, omega arith)

-- timer B, by its remainder, rises when the next count is a multiple of 10, and so is its remainder then
tenth : (c : ℕ) (b : Bool) → eqb (c % 10) 9 ≡ b
    → (rises 1000 (c % 10 * 100) 100 ≡ cond (eqb ((c + 1) % 10) 0) 1 0) × ((c % 10 * 100 + 100) % 1000 ≡ (c + 1) % 10 * 100)
unfolding rises
tenth c true e = let z : c % 10 ≡ 9 = eqb-true _ _ e in rw (next-zero c z, z) (refl, refl)
tenth c false e =
    let z : c % 10 ≢ 9 = eqb-false _ _ e in
    let below = hundreds-below (c % 10) (omega arith) in
    rw (next-digit c z, ne_eqb (c % 10 + 1) 0 (omega arith)) below

rises-tenth : (c : ℕ) → c + 1 < 4294967296 → rises 1000 (c % 10 * 100) 100 ≡ cond (eqb ((c + 1) % 4294967296 % 10) 0) 1 0
rises-tenth c h = rw (mod-eq_of_lt h) (tenth c (eqb (c % 10) 9) refl).0

rests-tenth : (c : ℕ) → c + 1 < 4294967296 → (c % 10 * 100 + 100) % 1000 ≡ (c + 1) % 4294967296 % 10 * 100
rests-tenth c h = rw (mod-eq_of_lt h) (tenth c (eqb (c % 10) 9) refl).1

risen-by : (b : Bool) (t : ℕ) → t < 65536 → risen true t (cond b 1 0) ≡ risen b t 1
unfolding risen wrapped
risen-by true t h = refl
risen-by false t h = omega arith

passing-by : (b : Bool) (t k : ℕ) → t < 65536 → passing true t (cond b 1 0) k ≡ passing b t 1 k
unfolding passing
passing-by true t k h = refl
passing-by false t k h = rw (lt-leb 65536 (t + 0) (omega arith)) refl

risen-small : (b : Bool) (t : ℕ) → t < 65536 → risen b t 1 < 65536
unfolding risen wrapped
risen-small true t h = omega arith
risen-small false t h = h

-- timer A, without a remainder, rises once
remaining-none : (on : Bool) → remaining on 100 0 100 ≡ 0
unfolding remaining
remaining-none true = refl
remaining-none false = refl

module _ (k : Clock) (steady : Steady k) (inside : k.count + 1 < 4294967296) where
  once-b : rises 1000 k.remb 100 ≡ cond (rises_b k) 1 0
  unfolding rises_b counted
  once-b = rw (steady.b-runs, steady.b_rest) (rises-tenth k.count inside)

  once-a : rises 100 k.rema 100 ≡ 1
  unfolding rises
  once-a = rw steady.a-rest refl

  timer-b : risen k.tbon k.tb (rises 1000 k.remb 100) ≡ risen (rises_b k) k.tb 1
  timer-b = ap (risen k.tbon k.tb) once-b ∙ ap (λ on. risen on k.tb (cond (rises_b k) 1 0)) steady.b-runs ∙ risen-by (rises_b k) k.tb steady.b-small

  rest-b : remaining k.tbon 1000 k.remb 100 ≡ counted k % 10 * 100
  unfolding remaining counted
  rest-b = rw (steady.b-runs, steady.b_rest) (rests-tenth k.count inside)

  elapsed-old : elapsed 100 k ≡ old_elapsed k
  unfolding elapsed old_elapsed
  elapsed-old = λ i. record {
    ta = risen k.taon k.ta (once-a i);
    tb = timer-b i;
    rema = (ap (λ r. remaining k.taon 100 r 100) steady.a-rest ∙ remaining-none k.taon) i;
    remb = rest-b i;
    taon = k.taon;
    tbon = k.tbon;
    count = counted k;
  }

  expired-old : expired 100 k ≡ bit_or (passing k.taon k.ta 1 7) (passing (rises_b k) k.tb 1 9)
  unfolding expired
  expired-old =
      ap₂ bit_or (ap (λ n. passing k.taon k.ta n 7) once-a)
      (ap (λ n. passing k.tbon k.tb n 9) once-b ∙ ap (λ on. passing on k.tb (cond (rises_b k) 1 0) 9) steady.b-runs ∙ passing-by (rises_b k) k.tb 9 steady.b-small)

ticked-old : (s : State) → Steady s.clock → s.clock.count + 1 < 4294967296 → ticked 100 s ≡ old_ticked s
unfolding ticked old_ticked with_pi
ticked-old s steady inside = rw (expired-old s.clock steady inside, elapsed-old s.clock steady inside) refl

-- ---- steps

-- a steady clock is steady again
steady-on : (k : Clock) → Steady k → Steady (old_elapsed k)
unfolding old_elapsed
steady-on k h = record { b-runs = h.b-runs; b-small = risen-small (rises_b k) k.tb h.b-small; a-rest = refl; b_rest = refl }

module _ (isa : Isa) (x : Machine) (steady : Steady x.state.clock) (leaves : Left x.state.clock (performed isa x).state.clock) where
  -- before its tick
  steady-performed : Steady (performed isa x).state.clock
  steady-performed = record {
    b-runs = leaves.mark ∙ steady.b-runs;
    b-small = subst (λ (t : ℕ). t < 65536) (sym leaves.timer) steady.b-small;
    a-rest = leaves.a-rest ∙ steady.a-rest;
    b_rest = leaves.rest ∙ steady.b_rest ∙ ap (λ n. n % 10 * 100) (sym leaves.counter);
  }

  pub step-old : x.state.clock.count + 1 < 4294967296 → step isa hundreds x ≡ old_step isa x
  unfolding step tick old_step performed
  step-old h =
      rw (duration-alike 100 x) (ap (λ s. machine s (performed isa x).memory (performed isa x).pages (performed isa x).ports)
      (ticked-old (performed isa x).state steady-performed (subst (λ (c : ℕ). c + 1 < 4294967296) (sym leaves.counter) h)))

  steady-step : Steady (old_step isa x).state.clock
  unfolding old_step old_ticked
  steady-step = steady-on (performed isa x).state.clock steady-performed

  counted_step : x.state.clock.count + 1 < 4294967296 → (old_step isa x).state.clock.count ≡ x.state.clock.count + 1
  unfolding old_step old_ticked old_elapsed counted
  counted_step h = ap (λ c. (c + 1) % 4294967296) leaves.counter ∙ mod-eq_of_lt h

  -- the next clock is steady, and one step older
  pub steady-next : x.state.clock.count + 1 < 4294967296 → Steady (step isa hundreds x).state.clock × ((step isa hundreds x).state.clock.count ≡ x.state.clock.count + 1)
  steady-next h = rw (step-old h) (steady-step, counted_step h)

-- "prints what it did before": n steps from a steady clock, none of which halts or sets timer B, whose counter has room for them
pub steps-old : (isa : Isa) (n : ℕ) (x : Machine) → Steady x.state.clock → LeaveB isa n x → x.state.clock.count + n ≤ 4294967295 → steps isa hundreds n x ≡ old_steps isa n x
unfolding LeaveB old_steps
steps-old isa zero x s l h = steps-zero isa hundreds x
steps-old isa (suc n) x s l h =
    let room : x.state.clock.count + 1 < 4294967296 = omega arith in
    let e : step isa hundreds x ≡ old_step isa x = step-old isa x s l.0 room in
    let left : (old_step isa x).state.clock.count + n ≤ 4294967295 = omega (arith, counted_step isa x s l.0 room) in
    steps-suc isa hundreds n x ∙ ap (steps isa hundreds n) e
    ∙ steps-old isa n (old_step isa x) (steady-step isa x s l.0) (subst (LeaveB isa n) e l.1) left

-- the reset machine is steady
pub reset-steady : Steady reset_state.clock
unfolding reset_state
reset-steady = record { b-runs = refl; b-small = omega arith; a-rest = refl; b_rest = refl }

-- ---- which steps leave timer B: all but those of a privileged operation that does not

-- what it leaves has timer B as it was in the clock k
abbrev pub Leaving : Clock → System → Type 0
Leaving k r = Left k r.state.clock

pub left-same : (k : Clock) → Left k k
left-same k = record { timer = refl; mark = refl; rest = refl; a-rest = refl; counter = refl }

performed-left : (s : State) (m g o : List ℕ) (a : Action) → Governed (Leaving s.clock) a → Left s.clock (perform s m g o a).state.clock
unfolding perform entered
performed-left s m g o (enter n) h = left-same s.clock
performed-left s m g o (call n) h = left-same s.clock
performed-left s m g o (fail b a) h = left-same s.clock
performed-left s m g o (affect e p) h = left-same s.clock
performed-left s m g o (govern r) h = h

-- the instruction n leaves timer B where it is privileged
module _ (isa : Isa) (s : State) (v : View) (g o : List ℕ) (n : Instruction)
    (h : isa.class (operation_of n.form) ≡ Supervisor → (ws : List ℕ) → OnDone (Leaving s.clock) (isa.supervise s g o n ws)) where
  supervised-left : (u : Supervised) → OnDone (Leaving s.clock) u → Governed (Leaving s.clock) (supervised n u)
  unfolding supervised
  supervised-left (done r) d = d
  supervised-left (refused b) d = tt

  operated-left : (c : Class) → isa.class (operation_of n.form) ≡ c → (ws : List ℕ) → Governed (Leaving s.clock) (operated isa s g o c n ws)
  unfolding operated
  operated-left User e ws = tt
  operated-left Supervisor e ws = supervised-left _ (h e ws)
  operated-left Executive e ws = tt

  accessed-left : (c : Result (Unit {0}) Refusal) → Governed (Leaving s.clock) (accessed isa s g o v n c)
  unfolding accessed
  accessed-left (Ok u) = operated-left _ refl _
  accessed-left (Err b) = tt

-- the privileged instructions that are ready leave timer B of the state s
abbrev pub Harmless : Isa → State → List ℕ → List ℕ → Result Instruction Denial → Type 0
Harmless isa s g o p = (n : Instruction) → p ≡ Ok n → isa.class (operation_of n.form) ≡ Supervisor → (ws : List ℕ) → OnDone (Leaving s.clock) (isa.supervise s g o n ws)

carried-left : (isa : Isa) (s : State) (v : View) (g o : List ℕ) (p : Result Instruction Denial) → Harmless isa s g o p → Governed (Leaving s.clock) (carried isa s g o v p)
unfolding carried
carried-left isa s v g o (Err d) h = tt
carried-left isa s v g o (Ok n) h = accessed-left isa s v g o n (h n refl) _

-- a step leaves timer B, where the instruction that it runs does once it is ready
pub step_left : (isa : Isa) (x : Machine)
    → (16 ≤ chosen x.state.core → Harmless isa (begun_from x.state) x.pages x.ports (prepared isa (processor (begun_from x.state)) (view (begun_from x.state).core x.memory x.pages)))
    → Left x.state.clock (performed isa x).state.clock
unfolding performed action begun_from begun instructed
step_left isa x h = performed-left (begun_from x.state) x.memory x.pages x.ports _ (by (ltb (chosen x.state.core) 16) refl)
  where
    by : (b : Bool) → ltb (chosen x.state.core) 16 ≡ b
        → Governed (Leaving x.state.clock) (begun isa (begun_from x.state) x.pages x.ports (view (begun_from x.state).core x.memory x.pages) (chosen x.state.core) b)
    by true e = tt
    by false e = carried-left isa (begun_from x.state) _ x.pages x.ports _ (h (ltb-false _ _ e))
