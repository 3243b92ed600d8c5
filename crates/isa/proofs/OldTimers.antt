-- "An image that neither halts nor sets timer B prints what it did before" (change request 3): of all instructions TBH alone halts timer B and OTB alone sets it, so steps of 100 tenths
-- that run neither are those of the old rule. Assumes nothing.
use Prim.Native.Nat.{ℕ, zero, suc, ◌+◌, ◌≤◌}
use mathlib.Core.Logic.{◌≢◌}
use mathlib.Core.Path.{◌≡◌, refl, sym, ap, ◌∙◌}
use mathlib.Core.Bool.{Bool, true, false, cond, false≢true}
use mathlib.Core.List.{List, [], ◌∷◌}
use native.Mathlib.Omega.{arith}
use lib.Dec.{eqb, leb}
use borrow.Author.Tests.{eqb-true, eqb-false}
use Rattle.choice.specs.Select.{select, up_to}
use Rattle.decode.specs.Forms.{operation_of}
use Rattle.machine.specs.declared.State.{State}
use Rattle.machine.specs.declared.Instruction.{Instruction}
use Rattle.machine.specs.State.{with_core, with_ta, with_ta_on, with_tb_on, with_rem_a}
use Rattle.machine.specs.Faults.{ft_alone}
use Rattle.machine.specs.Machine.{Machine, refused}
use Rattle.machine.specs.Step.{begun_from, step}
use Rattle.machine.specs.Runs.{steps}
use Rattle.machine.specs.OldTimers.{hundreds, Steady, Left, performed, old_steps, LeaveB}
use Rattle.machine.proofs.InstructionLaws.{OnDone}
use Rattle.machine.proofs.OldTimerLaws.{Leaving, left-same, step_left, steady-next, steps-old}
use Rattle.bits.specs.Bits.{weight}
use Rattle.isa.specs.Commands.{timer_rules, timer_command, is_timer, becomes, resumed, with_ra, faults_read, core_rules, core_command, state_command, ranges, commanded, supervised_by}
use Rattle.isa.specs.Mil1750.{mil1750}
use Rattle.isa.specs.OldTimers.{of_timer_b, KeepsB, KeepB}

-- ---- what holds of each rule of a list, and of the default, holds of the one that is chosen

chosen_of : {A : Type 0} (P : A → Type 0) (b : Bool) (x y : A) → (b ≡ true → P x) → (b ≡ false → P y) → P (cond b x y)
chosen_of P true x y p q = p refl
chosen_of P false x y p q = q refl

-- by a number: of each rule where it has the number n
abbrev EachAt : {A : Type 0} → (A → Type 0) → ℕ → List (ℕ × A) → Type 0
EachAt P n [] = Unit {0}
EachAt P n (r ∷ rs) = (n ≡ r.0 → P r.1) × EachAt P n rs

selected : {A : Type 0} (P : A → Type 0) (n : ℕ) (rs : List (ℕ × A)) (d : A) → EachAt P n rs → P d → P (select n rs d)
selected P n [] d e p = p
selected P n (r ∷ rs) d e p = chosen_of P (eqb n r.0) r.1 (select n rs d) (λ t. e.0 (eqb-true n r.0 t)) (λ t. selected P n rs d e.1 p)

-- by ranges
abbrev Each : {A : Type 0} → (A → Type 0) → List (ℕ × A) → Type 0
Each P [] = Unit {0}
Each P (r ∷ rs) = P r.1 × Each P rs

reached : {A : Type 0} (P : A → Type 0) (n : ℕ) (rs : List (ℕ × A)) (d : A) → Each P rs → P d → P (up_to n rs d)
reached P n [] d e p = p
reached P n (r ∷ rs) d e p = chosen_of P (leb n r.0) r.1 (up_to n rs d) (λ t. e.0) (λ t. reached P n rs d e.1 p)

-- ---- commands: from a steady clock, one that is neither TBH nor OTB leaves timer B; TBS finds it running

never : {A : Type 0} (command j : ℕ) → of_timer_b command ≡ false → of_timer_b j ≡ true → command ≡ j → A
never command j h t e = absurd (false≢true (sym h ∙ ap of_timer_b e ∙ t))

module _ (s : State) (steady : Steady s.clock) where
  timer-left : (k command : ℕ) → of_timer_b command ≡ false → Left s.clock (timer_command s k command).clock
  unfolding timer_command with_ta with_ta_on with_tb_on with_rem_a
  timer-left k command h =
      let same = left-same s.clock in
      selected (λ f. Left s.clock (f s k).clock) command timer_rules (λ t j. t)
      (λ e. record { timer = refl; mark = refl; rest = refl; a-rest = refl; counter = refl }, (λ e. record { timer = refl; mark = refl; rest = refl; a-rest = refl; counter = refl }, (λ e. record { timer = refl; mark = refl; rest = refl; a-rest = sym steady.a-rest; counter = refl }, (λ e. record { timer = refl; mark = sym steady.b-runs; rest = refl; a-rest = refl; counter = refl }, (never command 0x400D h refl, (never command 0x400E h refl, (λ e. same, (λ e. same, tt)))))))) same

  core-left : (g o : List ℕ) (n : Instruction) (ra command : ℕ) → OnDone (Leaving s.clock) (core_command s g o n ra command)
  unfolding core_command becomes with_ra faults_read
  core-left g o n ra command =
      selected (OnDone (Leaving s.clock)) command (core_rules s g o n ra) (refused (ft_alone (weight 5)))
      (λ e. left-same s.clock, (λ e. left-same s.clock, (λ e. left-same s.clock, (λ e. left-same s.clock, (λ e. left-same s.clock, (λ e. left-same s.clock, (λ e. left-same s.clock, (λ e. left-same s.clock, (λ e. left-same s.clock, (λ e. left-same s.clock, (λ e. left-same s.clock, (λ e. left-same s.clock, tt)))))))))))) tt

  state-left : (g o : List ℕ) (n : Instruction) (ra command : ℕ) → of_timer_b command ≡ false → OnDone (Leaving s.clock) (state_command s g o n ra command)
  unfolding state_command becomes
  state-left g o n ra command h =
      chosen_of (OnDone (Leaving s.clock)) (is_timer command) _ _ (λ t. timer-left _ command h) (λ t. core-left g o n ra command)

  commanded-left : (g o : List ℕ) (n : Instruction) (ra command : ℕ) → of_timer_b command ≡ false → OnDone (Leaving s.clock) (commanded s g o n ra command)
  unfolding commanded becomes with_ra
  commanded-left g o n ra command h =
      let same = left-same s.clock in
      let other = state-left g o n ra command h in
      reached (OnDone (Leaving s.clock)) command (ranges s g o n ra command) (state_command s g o n ra command)
      (same, (other, (same, (same, (other, (same, (other, (same, (same, tt))))))))) other

-- the privileged operations: LST, and XIO
supervised-left : (s : State) (g o : List ℕ) (n : Instruction) (ws : List ℕ) → Steady s.clock → (operation_of n.form ≢ 35 → of_timer_b n.address ≡ false)
    → OnDone (Leaving s.clock) (supervised_by s g o n ws)
unfolding supervised_by becomes
supervised-left s g o n ws z h =
    chosen_of (OnDone (Leaving s.clock)) (eqb (operation_of n.form) 35) _ _ (λ t. left-same s.clock)
    (λ t. commanded-left (with_core s (resumed s.core n)) z g o n _ n.address (h (eqb-false _ _ t)))

-- ---- steps

step_keeps : (x : Machine) → Steady x.state.clock → KeepsB x → Left x.state.clock (performed mil1750 x).state.clock
unfolding mil1750 begun_from
step_keeps x steady h = step_left mil1750 x (λ i n e c ws. supervised-left (begun_from x.state) x.pages x.ports n ws steady (h i n e c))

keep-leave : (n : ℕ) (x : Machine) → Steady x.state.clock → KeepB n x → x.state.clock.count + n ≤ 4294967295 → LeaveB mil1750 n x
unfolding KeepB LeaveB
keep-leave zero x s h c = tt
keep-leave (suc n) x s h c =
    let l : Left x.state.clock (performed mil1750 x).state.clock = step_keeps x s h.0 in
    let on = steady-next mil1750 x s l (omega arith) in
    (l, keep-leave n (step mil1750 hundreds x) on.0 h.1 (omega (arith, on.1)))

-- from a steady clock, as reset leaves it, steps that neither halt nor set timer B are those of the old rule
pub as_before : (n : ℕ) (x : Machine) → Steady x.state.clock → KeepB n x → x.state.clock.count + n ≤ 4294967295 → steps mil1750 hundreds n x ≡ old_steps mil1750 n x
as_before n x s h c = steps-old mil1750 n x s (keep-leave n x s h c) c
