-- What a step does, its end, what stays over it, and steps by segments and batches. Assumes nothing.
use Prim.Native.Nat.{ℕ, zero, suc, ◌+◌, ◌-◌, ◌*◌, ◌^◌, ◌≤◌, ◌<◌}
use mathlib.Core.Path.{◌≡◌, refl, sym, ap, ◌∙◌}
use mathlib.Core.Bool.{false}
use mathlib.Core.List.{List}
use native.Mathlib.Omega.{arith}
use native.Mathlib.Numerals.{sub-one}
use native.Mathlib.Nat.{mul-zero, mul-one, mul-add, mul-le-mul, mul-le-mul_left}
use lib.ListN.{length, get_or}
use borrow.Author.Tests.{lt-ltb, le-ltb}
use Rattle.machine.specs.declared.State.{State}
use Rattle.machine.specs.declared.Core.{Core}
use Rattle.machine.specs.declared.Clock.{Clock}
use Rattle.machine.specs.State.{with_hold, with_clock, with_processor, joined}
use Rattle.machine.specs.Machine.{Machine, machine, Became, Isa}
use Rattle.machine.specs.Instructions.{enter, View, view, instructed}
use Rattle.machine.specs.Entries.{takeable, chosen}
use Rattle.machine.specs.Step.{released, begun_from, perform, begun, action, ticked, tick, timing, duration, step}
use Rattle.machine.specs.Runs.{steps}
use Rattle.machine.proofs.DurationLaws.{timing-below}
use Rattle.machine.proofs.MachineLaws.{became-machine}
use Rattle.machine.proofs.RunLaws.{steps-zero, steps-suc}
use Rattle.isa.specs.Fields.{field_a}
use Rattle.isa.specs.Commands.{timer_command}
use Rattle.clock.specs.Deferred.{Deferrable, after_ticks, ticked_by, longest_of}
use Rattle.clock.proofs.DeferredLaws.{ticked-after-ticks, ticked-inside, after-ticks-none, deferrable-less}
use Rattle.clock.proofs.LongestLaws.{longest-of}
use Rattle.instruction_retired.specs.declared.Retired.{Retired}
use Rattle.instruction_retired.specs.Settled.{Settled, after, Lasting, timed_after}
use Rattle.instruction_retired.specs.declared.TimerCommand.{TimerCommand}
use Rattle.run_batch.specs.declared.Segment.{Segment}
use Rattle.std.specs.Prelude.{Option, Some, None}
use Rattle.run_batch.specs.Batch.{closed_by, deferred_at, last_of, closed, AllButLast}

-- the segment that ends with an instruction, after which n ticks of e tenths together are deferred
abbrev pub segment_of : Retired → ℕ → ℕ → Segment
segment_of v n e = record { core = v.core; deferred = n; tenths = e; timer = v.timer }

-- ---- what a step does, from the interrupt n that is chosen

module _ (isa : Isa) (x : Machine) (n : ℕ) (e : n ≡ chosen x.state.core) where
  pub enters : n < 16 → enter n ≡ action isa x
  unfolding action begun
  enters h = rw (← e, lt-ltb _ _ h) refl

  pub instructs : 16 ≤ n
      → instructed isa (begun_from x.state) x.pages x.ports (view (begun_from x.state).core x.memory x.pages) ≡ action isa x
  unfolding action begun
  instructs h = rw (← e, le-ltb _ _ h) refl

  -- and how long it takes
  pub enters-for : n < 16 → (d : List ℕ) → duration d x ≡ get_or d 256 0
  unfolding duration timing
  enters-for h d = rw (← e, lt-ltb _ _ h) refl

  pub instructs-for : 16 ≤ n → (d : List ℕ) → duration d x ≡ get_or d (timing x.state.core (view x.state.core x.memory x.pages) false) 0
  unfolding duration
  instructs-for h d = rw (← e, le-ltb _ _ h) refl

-- ---- what stays

-- over the clearing of the hold mark, from the core t to f
module _ (t f : Core) (a : f ≡ released t) where
  pub sw-released : t.sw ≡ f.sw
  unfolding released with_hold
  sw-released = sym (ap (λ (u : Core). u.sw) a)

  pub hold-released : f.hold ≡ false
  unfolding released with_hold
  hold-released = ap (λ (u : Core). u.hold) a

  deferred-released : (s : State) (n e : ℕ) (r : List ℕ) → deferred_at s n e f r ≡ begun_from (deferred_at s n e t r)
  unfolding begun_from
  deferred-released s n e r = ap (λ u. deferred_at s n e u r) a

-- a core whose hold mark is clear
released-same : (c : Core) → c.hold ≡ false → c ≡ released c
unfolding released with_hold
released-same c h = ap (with_hold c) h

pub chosen-released : (t f : Core) → f ≡ released t → t.hold ≡ false → chosen f ≡ chosen t
chosen-released t f a h = ap chosen (a ∙ sym (released-same t h))

-- over an instruction, from the core c to d
pub chosen-settled : (c d : Core) → Settled c d → chosen d ≡ chosen c
unfolding chosen takeable
chosen-settled c d s = rw (s.pi-kept, s.mk-kept, s.enabled-kept, s.hold-kept) refl

-- ---- n steps with the durations d

module _ (isa : Isa) (d : List ℕ) where
  pub steps-none : (n : ℕ) (x : Machine) → n ≤ 0 → steps isa d n x ≡ x
  steps-none zero x h = steps-zero isa d x
  steps-none (suc n) x h = absurd (omega arith)

  steps-step : (n : ℕ) (x : Machine) → 0 < n → steps isa d n x ≡ steps isa d (n - 1) (step isa d x)
  steps-step zero x h = absurd (omega arith)
  steps-step (suc n) x h = rw sub-one (steps-suc isa d n x)

  steps_next : (k : ℕ) (x : Machine) → steps isa d (k + 1) x ≡ steps isa d k (step isa d x)
  steps_next k x = steps-step (k + 1) x (omega arith) ∙ ap (λ i. steps isa d i (step isa d x)) (omega arith)

-- ---- the time that some steps take

-- with one step more it is within the bound of one step more
pub bounded-more : (d : List ℕ) (n e i : ℕ) → length d ≡ 257 → i < 257 → e ≤ longest_of d * n → e + get_or d i 0 ≤ longest_of d * (n + 1)
bounded-more d n e i l h b =
    let most : get_or d i 0 ≤ longest_of d = longest-of d i (omega (arith, l)) in
    let more : longest_of d * (n + 1) ≡ longest_of d * n + longest_of d = mul-add (longest_of d) n 1 ∙ omega (arith, mul-one (longest_of d)) in
    omega (arith, more)

pub bounded-step : (d : List ℕ) (n e : ℕ) (c : Core) (v : View) → length d ≡ 257 → e ≤ longest_of d * n → e + get_or d (timing c v false) 0 ≤ longest_of d * (n + 1)
bounded-step d n e c v l b = bounded-more d n e (timing c v false) l (timing-below c v false) b

-- no step, no time
bounded-none : (longest n e : ℕ) → e ≤ longest * n → n ≡ 0 → e ≡ 0
bounded-none longest n e b z = let same : longest * n ≡ 0 = ap (λ (m : ℕ). longest * m) z ∙ mul-zero longest in omega arith

-- less than 2^48 tenths
pub bounded-small : (longest n e : ℕ) → longest < 65536 → n < 4294967296 → e ≤ longest * n → e < 2 ^ 48
bounded-small longest n e h i b =
    let each : longest ≤ 65535 = omega arith in
    let all : n ≤ 4294967295 = omega arith in
    let most : longest * n ≤ 65535 * 4294967295 = mul-le-mul each all in
    omega (arith, b, most)

-- before the last tick of a batch no timer passes its end
deferrable-at : (d : List ℕ) (n e most : ℕ) (k : Clock) → AllButLast d most k → n < most → e ≤ longest_of d * n → 0 < n → Deferrable e k
deferrable-at d n e most k early h b p =
    let more : longest_of d * n ≤ longest_of d * (most - 1) = mul-le-mul_left (longest_of d) (omega arith) in
    deferrable-less e (longest_of d * (most - 1)) k (omega (arith, b)) (early (omega arith))

-- ---- the last tick of a segment

-- a timer command that an instruction left to do, and the tick after it: the instruction came to v over t tenths, after n ticks of e tenths
module _ (d : List ℕ) (s : State) (n e t : ℕ) (v : Retired) (r : List ℕ) (b : e ≤ longest_of d * n) (early : 0 < n → Deferrable e s.clock)
    (last : (q : TimerCommand) → v.timer ≡ Some q → t ≡ last_of d q) where
  ticked-closed : (z : Option TimerCommand) → v.timer ≡ z
      → ticked t (timed_after (deferred_at s n e v.core r) z) ≡ closed_by d s (segment_of v (n + 1) (e + t)) r z
  ticked-closed None z = ticked-after-ticks (with_processor s (joined v.core r)) s.clock n e t (bounded-none (longest_of d) n e b) early
  ticked-closed (Some q) z =
      let before : n + 1 - 1 ≡ n = omega arith in
      let spent : e + t - t ≡ e = omega arith in
      rw (← last q z, before, spent) refl

  pub closes : ticked t (after (with_clock s (after_ticks n e s.clock)) v r) ≡ closed d s (segment_of v (n + 1) (e + t)) r
  unfolding closed
  closes = ticked-closed v.timer refl

-- where no command is left, all ticks are deferred
closed-deferred : (d : List ℕ) (s : State) (v : Segment) (r : List ℕ) → v.timer ≡ None → Deferrable v.tenths s.clock
    → closed d s v r ≡ deferred_at s v.deferred v.tenths v.core r
unfolding closed
closed-deferred d s v r z h = rw z (ticked-inside (with_processor s (joined v.core r)) s.clock v.deferred v.tenths h)

-- ---- the entry of interrupt n, from the core c to f, and the steps after it

-- the segment of an entry
abbrev pub entry_segment : Core → ℕ → ℕ → Segment
entry_segment f n e = record { core = f; deferred = n; tenths = e; timer = None }

pub entry-made : (isa : Isa) (d : List ℕ) (s : State) (n deferred e most : ℕ) (c f : Core) (r m g o m' : List ℕ) → n ≡ chosen c → n < 16
    → e ≤ longest_of d * deferred → deferred < most → AllButLast d most s.clock
    → Became (perform (begun_from (deferred_at s deferred e c r)) m g o (enter n)) (deferred_at s deferred e f r) m' g o
    → (k : ℕ) → steps isa d (k + (deferred + 1 - deferred)) (machine (deferred_at s deferred e c r) m g o)
    ≡ steps isa d k (machine (closed d s (entry_segment f (deferred + 1) (e + get_or d 256 0)) r) m' g o)
unfolding step tick closed
entry-made isa d s n deferred e most c f r m g o m' i h bound below early b k =
    let x = machine (deferred_at s deferred e c r) m g o in
    ap (λ j. steps isa d j x) (omega arith) ∙ steps_next isa d k x
    ∙ rw (← enters isa x n i h, enters-for isa x n i h d, ← became-machine b)
    (ap (λ w. steps isa d k (machine w m' g o))
    (ticked-after-ticks (with_processor s (joined f r)) s.clock deferred e (get_or d 256 0) (bounded-none (longest_of d) deferred e bound) (deferrable-at d deferred e most s.clock early below bound)))

-- ---- an instruction, its tick and the steps after it

-- how long the instruction at IC takes
abbrev pub lasting : List ℕ → Core → List ℕ → List ℕ → ℕ
lasting d c m g = get_or d (timing c (view c m g) false) 0

abbrev pub going : Isa → List ℕ → ℕ → State → List ℕ → List ℕ → List ℕ → Machine
going isa d k s m g o = steps isa d k (tick (lasting d s.core m g) (perform s m g o (instructed isa s g o (view s.core m g))))

-- steps begin with an instruction, where no interrupt is chosen; u is the state with the hold mark cleared
going_start : (isa : Isa) (d : List ℕ) (k : ℕ) (x : Machine) (u : State) → u ≡ begun_from x.state → 16 ≤ chosen x.state.core
    → steps isa d (k + 1) x ≡ going isa d k u x.memory x.pages x.ports
unfolding step begun_from released with_hold timing
going_start isa d k x u e i = steps_next isa d k x ∙ rw (e, ← instructs isa x _ refl i, instructs-for isa x _ refl i d) refl

-- the segment begins with the core f, when `from` steps are made over e₀ tenths; before its instruction, when `deferred` are made over e, there is the core t; the instruction comes to v
module _ (isa : Isa) (d : List ℕ) (s : State) (from e₀ deferred e most : ℕ) (h : from ≤ deferred) (below : deferred < most) (bound : e ≤ longest_of d * deferred) (early : AllButLast d most s.clock)
    (f t : Core) (r₀ m₀ g₀ o₀ r m g o : List ℕ)
    (goes : (k : ℕ) → going isa d (k + (deferred - from)) (deferred_at s from e₀ f r₀) m₀ g₀ o₀ ≡ going isa d k (deferred_at s deferred e t r) m g o)
    (v : Retired) (last : Lasting t (timing t (view t m g) false) v) (r' m' g' o' : List ℕ)
    (b : Became (perform (deferred_at s deferred e t r) m g o (instructed isa (deferred_at s deferred e t r) g o (view t m g))) (after (with_clock s (after_ticks deferred e s.clock)) v r') m' g' o') where
  ticks : (k : ℕ) → going isa d k (deferred_at s deferred e t r) m g o ≡ steps isa d k (machine (closed d s (segment_of v (deferred + 1) (e + lasting d t m g)) r') m' g' o')
  unfolding tick
  ticks k =
      ap (λ x. steps isa d k (tick (lasting d t m g) x)) (sym (became-machine b))
      ∙ ap (λ w. steps isa d k (machine w m' g' o'))
      (closes d s deferred e (lasting d t m g) v r' bound (deferrable-at d deferred e most s.clock early below bound) (λ q z. ap (λ j. get_or d j 0) (sym (last.timed q z))))

  -- the segment ends; y is the number of its tenths
  pub segment-made : (c : Core) (y : ℕ) → y ≡ e + lasting d t m g → f ≡ released c → 16 ≤ chosen c → (k : ℕ)
      → steps isa d (k + (deferred + 1 - from)) (machine (deferred_at s from e₀ c r₀) m₀ g₀ o₀) ≡ steps isa d k (machine (closed d s (segment_of v (deferred + 1) y) r') m' g' o')
  segment-made c y l z i k =
      let x = machine (deferred_at s from e₀ c r₀) m₀ g₀ o₀ in
      ap (λ j. steps isa d j x) (omega arith) ∙ going_start isa d (k + (deferred - from)) x (deferred_at s from e₀ f r₀) (deferred-released c f z s from e₀ r₀) i ∙ goes k ∙ ticks k
      ∙ ap (λ j. steps isa d k (machine (closed d s (segment_of v (deferred + 1) j) r') m' g' o')) (sym l)

  -- the next instruction follows at once
  pub segment-on : (y : ℕ) → y ≡ e + lasting d t m g → length d ≡ 257 → v.timer ≡ None → v.core.hold ≡ false → 16 ≤ chosen v.core → deferred + 1 < most → (k : ℕ)
      → going isa d (k + (deferred + 1 - from)) (deferred_at s from e₀ f r₀) m₀ g₀ o₀ ≡ going isa d k (deferred_at s (deferred + 1) y v.core r') m' g' o'
  segment-on y l j z i q onward k =
      let more : y ≤ longest_of d * (deferred + 1) = rw l (bounded-step d deferred e t (view t m g) j bound) in
      let next = deferred_at s (deferred + 1) y v.core r' in
      let inside : Deferrable y s.clock = deferrable-at d (deferred + 1) y most s.clock early onward more (omega arith) in
      ap (λ i. going isa d i (deferred_at s from e₀ f r₀) m₀ g₀ o₀) (omega arith) ∙ goes (k + 1) ∙ ticks (k + 1)
      ∙ ap (λ w. steps isa d (k + 1) (machine w m' g' o'))
      (ap (λ i. closed d s (segment_of v (deferred + 1) i) r') (sym l) ∙ closed-deferred d s (segment_of v (deferred + 1) y) r' z inside)
      ∙ going_start isa d k (machine next m' g' o') next (deferred-released v.core v.core (released-same v.core i) s (deferred + 1) y r') q

-- ---- a batch of n steps, of which n - from are left before a segment

module _ (isa : Isa) (d : List ℕ) (s : State) (x y : Machine) (n from : ℕ) (v : Segment) (h : from < v.deferred) (i : v.deferred ≤ n) (goes : y ≡ steps isa d (n - from) x) (r m g o : List ℕ)
    (made : (k : ℕ) → steps isa d (k + (v.deferred - from)) x ≡ steps isa d k (machine (closed d s v r) m g o)) where
  -- it ends with the segment: z is the state after its last tick
  pub batch-end : (z : State) → z ≡ closed d s v r → y ≡ steps isa d (n - v.deferred) (machine z m g o)
  batch-end z e = goes ∙ ap (λ k. steps isa d k x) (omega arith) ∙ made (n - v.deferred) ∙ ap (λ w. steps isa d (n - v.deferred) (machine w m g o)) (sym e)

  -- it goes on
  pub batch-on : (most : ℕ) → v.timer ≡ None → v.deferred < most → v.tenths ≤ longest_of d * v.deferred → AllButLast d most s.clock
      → y ≡ steps isa d (n - v.deferred) (machine (deferred_at s v.deferred v.tenths v.core r) m g o)
  batch-on most z below bound early = batch-end _ (sym (closed-deferred d s v r z (deferrable-at d v.deferred v.tenths most s.clock early below bound (omega arith))))

-- its state at the end, where no command is left and where one is
pub closed-finished : (d : List ℕ) (s : State) (v : Segment) (r : List ℕ) → v.timer ≡ None → closed d s v r ≡ ticked_by v.deferred v.tenths (with_processor s (joined v.core r))
unfolding closed
closed-finished d s v r z = rw z refl

pub closed-commanded : (d : List ℕ) (s : State) (v : Segment) (r : List ℕ) (t : TimerCommand) → v.timer ≡ Some t
    → closed d s v r ≡ ticked (last_of d t) (timer_command (deferred_at s (v.deferred - 1) (v.tenths - last_of d t) v.core r) (field_a t.first) t.command)
unfolding closed
closed-commanded d s v r t z = rw z refl

-- it begins with no tick to make up for
pub batch-start : (isa : Isa) (d : List ℕ) (n z e : ℕ) (s : State) (c : Core) (r m g o : List ℕ) → z ≡ 0
    → steps isa d n (machine (with_processor s (joined c r)) m g o) ≡ steps isa d (n - z) (machine (deferred_at s z e c r) m g o)
batch-start isa d n z e s c r m g o i =
    let none : after_ticks z e s.clock ≡ s.clock = ap (λ j. after_ticks j e s.clock) i ∙ after-ticks-none s.clock e in
    ap (λ w. steps isa d n (machine (with_clock (with_processor s (joined c r)) w) m g o)) (sym none) ∙ ap (λ j. steps isa d j (machine (deferred_at s z e c r) m g o)) (omega arith)
