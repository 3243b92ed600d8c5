-- Steps that neither halt nor set timer B: of these the old rule of the timers and the present one give the same (proofs/OldTimers). No contract cites it. Assumes nothing.
use Rattle.std.specs.Prelude.{ℕ, zero, suc, ◌≤◌, ◌≡◌, Bool, false, [], ◌∷◌, ◌≢◌, Ok}
use Rattle.choice.specs.Table.{among}
use Rattle.decode.specs.Forms.{operation_of}
use Rattle.machine.specs.declared.Instruction.{Instruction}
use Rattle.machine.specs.declared.Class.TheVariants.{Supervisor}
use Rattle.machine.specs.State.{processor}
use Rattle.machine.specs.Machine.{Machine}
use Rattle.machine.specs.Instructions.{view, prepared}
use Rattle.machine.specs.Entries.{chosen}
use Rattle.machine.specs.Step.{begun_from, step}
use Rattle.machine.specs.OldTimers.{hundreds}
use Rattle.isa.specs.Mil1750.{class_of, mil1750}

-- TBH and OTB
abbrev pub of_timer_b : ℕ → Bool
of_timer_b command = among command (0x400D ∷ 0x400E ∷ [])

-- the step of x neither halts nor sets timer B: where it runs a privileged instruction other than LST (5.35), which is XIO, the command is neither TBH nor OTB
abbrev pub KeepsB : Machine → Type 0
KeepsB x =
    16 ≤ chosen x.state.core → (n : Instruction) → prepared mil1750 (processor (begun_from x.state)) (view (begun_from x.state).core x.memory x.pages) ≡ Ok n
    → class_of (operation_of n.form) ≡ Supervisor → operation_of n.form ≢ 35 → of_timer_b n.address ≡ false

-- neither do its first n steps, of 100 tenths each
unfoldable pub KeepB : ℕ → Machine → Type 0
KeepB zero x = Unit {0}
KeepB (suc n) x = KeepsB x × KeepB n (step mil1750 hundreds x)
