-- XIO: a timer command, and any other done or refused. Assumes nothing.
use Rattle.std.proofs.Common.{Result, Ok, Err}
use Prim.Native.Nat.{ℕ, ◌+◌}
use mathlib.Core.Path.{◌≡◌, refl, ap, subst}
use mathlib.Core.Bool.{true}
use mathlib.Core.List.{List, map}
use Rattle.choice.proofs.TestLaws.{among-every}
use Rattle.page.specs.declared.Refusal.{Refusal}
use Rattle.page.specs.Spans.{wrapped}
use Rattle.decode.specs.Forms.{length_of}
use Rattle.machine.specs.declared.State.{State}
use Rattle.machine.specs.declared.Core.{Core}
use Rattle.machine.specs.declared.Instruction.{Instruction}
use Rattle.machine.specs.State.{joined, with_core, with_processor}
use Rattle.machine.specs.Machine.{Became, Supervised, next_of}
use Rattle.machine.specs.Instructions.{supervised}
use Rattle.machine.specs.Step.{faulted, perform}
use Rattle.isa.specs.Fields.{field_a}
use Rattle.isa.specs.Commands.{resumed, is_timer, timer_rules, timer_command, state_command, commanded, becomes, transferred}
use Rattle.command.specs.Transfer.{governed, Kept}

-- ---- a timer command

timer-commanded : (s : State) (g o : List ℕ) (n : Instruction) (ra command : ℕ) → is_timer command ≡ true
    → commanded s g o n ra command ≡ becomes g o (timer_command s (field_a n.first) command)
unfolding is_timer commanded state_command
timer-commanded s g o n ra command h =
    among-every (λ c. commanded s g o n ra c ≡ becomes g o (timer_command s (field_a n.first) c))
    (map (λ r. r.0) timer_rules) (refl, (refl, (refl, (refl, (refl, (refl, (refl, (refl, tt)))))))) command h

-- d is the core at the next instruction
pub timer-became : (s : State) (m g o : List ℕ) (n : Instruction) (d : Core) → is_timer n.address ≡ true → d ≡ resumed s.core n
    → Became (perform s m g o (supervised n (transferred s g o n))) (timer_command (with_core s d) (field_a n.first) n.address) m g o
unfolding supervised perform becomes
timer-became s m g o n d h f =
    rw (timer-commanded (with_core s (resumed s.core n)) g o n _ n.address h, f)
    (record { state-is = refl; memory-is = refl; pages-is = refl; ports-is = refl })

-- ---- any other, done or refused

module _ (s : State) (m : List ℕ) (n : Instruction) (regs' g g' o o' : List ℕ) (v : Result Core Refusal) (q : Supervised) (e : governed s v regs' g' o' ≡ q) where
  pub governed-done : (t : Core) → v ≡ Ok t → Became (perform s m g o (supervised n q)) (with_processor s (joined t regs')) m g' o'
  unfolding governed supervised perform
  governed-done t h =
      rw (← e, h) (record { state-is = refl; memory-is = refl; pages-is = refl; ports-is = refl })

  pub governed-refused : (b : Refusal) (r : Core) → v ≡ Err b → Kept v s.regs regs' × Kept v g g' × Kept v o o'
      → r ≡ faulted s.core b (wrapped (n.ic + length_of n.form))
      → Became (perform s m g o (supervised n q)) (with_processor s (joined r regs')) m g' o'
  unfolding governed Kept supervised perform next_of
  governed-refused b r h k f =
      let kept : (s.regs ≡ regs') × (g ≡ g') × (o ≡ o') = subst (λ w. Kept w s.regs regs' × Kept w g g' × Kept w o o') h k in
      rw (← e, h, ← kept.0, ← kept.1, ← kept.2) (record { state-is = ap (with_core s) f; memory-is = refl; pages-is = refl; ports-is = refl })
