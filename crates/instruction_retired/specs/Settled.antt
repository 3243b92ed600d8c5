-- What an instruction comes to, of which a timer command may be left to do; and what it may leave as it was: all by which an interrupt is chosen, with key and
-- address state. Assumes nothing.
use Rattle.std.specs.Prelude.{ℕ, ◌/◌, ◌≡◌, Bool, true, Option, Some, None, List, Ok}
use Rattle.machine.specs.declared.State.{State}
use Rattle.machine.specs.declared.Core.{Core}
use Rattle.machine.specs.declared.Instruction.{Instruction}
use Rattle.machine.specs.State.{key_of, group_of, joined, with_processor}
use Rattle.machine.specs.Machine.{Became}
use Rattle.machine.specs.Instructions.{Action, view, carried, instructed}
use Rattle.machine.specs.Step.{perform}
use Rattle.isa.specs.Fields.{field_a}
use Rattle.isa.specs.Commands.{timer_command}
use Rattle.isa.specs.Mil1750.{mil1750}
use Rattle.instruction_retired.specs.declared.Retired.{Retired}
use Rattle.instruction_retired.specs.declared.TimerCommand.{TimerCommand}

-- a core, and nothing left to do
abbrev pub retired_with : Bool → Core → Retired
retired_with settled c = record { settled = settled; timer = None; core = c }

-- the state after a timer command, where one is left to do
abbrev pub timed_after : State → Option TimerCommand → State
timed_after s None = s
timed_after s (Some t) = timer_command s (field_a t.first) t.command

-- the state after it, from the state s, with the registers r: what is left to do is done last
abbrev pub after : State → Retired → List ℕ → State
after s m r = timed_after (with_processor s (joined m.core r)) m.timer

-- the choice of an interrupt, the key and the address state are the same
pub record Settled (c d : Core) : Type 0 where
  pub pi-kept : d.pi ≡ c.pi
  pub mk-kept : d.mk ≡ c.mk
  pub enabled-kept : d.enabled ≡ c.enabled
  pub hold-kept : d.hold ≡ c.hold
  pub key-kept : key_of d.sw ≡ key_of c.sw
  pub group-kept : group_of d.sw ≡ group_of c.sw

-- what an instruction from the core c says of itself, where k is the number of its duration. Open, for speed, is when it says so: `settled` may be false where it could be
-- true. Then the interrupt is chosen anew: what the steps come to is the same. Of a timer command's first word only what the command and its duration use is known: the state after
-- it (`after`) is the same.
pub record Lasting (c : Core) (k : ℕ) (m : Retired) : Type 0 where
  pub choice-kept : m.settled ≡ true → Settled c m.core
  pub all_done : m.settled ≡ true → m.timer ≡ None
  pub timed : (t : TimerCommand) → m.timer ≡ Some t → t.first / 256 ≡ k

-- ---- what the code of an instruction ensures

-- what an instruction that is ready does, with the memory m, the page registers g and the ports o, from the state s
abbrev pub carrying : Instruction → List ℕ → List ℕ → List ℕ → State → Action
carrying n m g o s = carried mil1750 s g o (view s.core m g) (Ok n)

-- what the instruction at IC does
abbrev pub obeying : List ℕ → List ℕ → List ℕ → State → Action
obeying m g o s = instructed mil1750 s g o (view s.core m g)

-- this action was performed from the core c and the registers r, whatever the rest of the state is: it came to v, registers r', memory m', page registers g' and ports o'; k is
-- the number of its duration
abbrev pub Performed : (List ℕ → List ℕ → List ℕ → State → Action) → Core → List ℕ → List ℕ → List ℕ → List ℕ → ℕ → Retired → List ℕ → List ℕ → List ℕ → List ℕ → Type 0
Performed act c r m g o k v r' m' g' o' =
    ((s : State) → Became (perform (with_processor s (joined c r)) m g o (act m g o (with_processor s (joined c r)))) (after s v r') m' g' o') × Lasting c k v
