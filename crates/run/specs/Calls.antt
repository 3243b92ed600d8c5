-- Calls of `run::run` one after another, and property 3 of what they return and leave (the Scope's "Two machines compared"). The words of the claim are those of
-- `machine/specs/Isolation`; here they are said of the answers, states and lists that the caller gets. Assumes nothing.
use Rattle.std.specs.Prelude.{ℕ, ◌≡◌, List, [], ◌∷◌, ◌++◌, map, length, take, replicate}
use Rattle.std.proofs.Math.Option.{none}
use Rattle.machine.specs.declared.State.{State}
use Rattle.machine.specs.Machine.{Machine, machine, Became}
use Rattle.machine.specs.Timelines.{Item, stepped}
use Rattle.machine.specs.Runs.{Run, Answer, answer_of, left, steps_of, first_entry, before_entry}
use Rattle.machine.specs.Isolation.{Found}
use Rattle.isa.specs.Mil1750.{mil1750}

-- ---- calls

-- a call: its run, its answer and the state that its caller has then (`machine/Runs: answer_in, state_in`), and what it leaves in memory, page registers and ports
pub record Call : Type 0 where
  pub run : Run
  pub answer : Answer
  pub state : State
  pub memory : List ℕ
  pub pages : List ℕ
  pub ports : List ℕ

-- what `run` ensures of a call that is given the machine x: the two parts of its contract (`proofs/Isolated: contract`)
abbrev pub Ensured : Machine → Call → Type 0
Ensured x c = (c.answer ≡ answer_of x c.run) × Became (left mil1750 x c.run) c.state c.memory c.pages c.ports

-- the machine that a call returns and leaves
abbrev pub resulting : Call → Machine
resulting c = machine c.state c.memory c.pages c.ports

-- `run` ensures this of each call of a list: the first is given x, each other one what the call before it returned and left
abbrev pub EachEnsured : Machine → List Call → Type 0
EachEnsured x [] = Unit {0}
EachEnsured x (c ∷ cs) = Ensured x c × EachEnsured (resulting c) cs

-- their runs and their answers
abbrev pub runs_of : List Call → List Run
runs_of cs = map (λ c. c.run) cs

abbrev pub replies : List Call → List Answer
replies cs = map (λ c. c.answer) cs

-- their timeline: as many steps as the budget of each that was not refused says, with its durations
abbrev pub timeline_of : List Call → List Item
timeline_of [] = []
timeline_of (c ∷ cs) = replicate (steps_of c.answer c.run.budget) (stepped c.run.durations) ++ timeline_of cs

-- the machine that the last one returned and left
abbrev pub final : Machine → List Call → Machine
final x [] = x
final x (c ∷ cs) = final (resulting c) cs

-- how many are before the one in which the first entry occurs, all of them where there is none; and these calls
abbrev pub calls_before : Machine → List Call → ℕ
calls_before x cs = length (before_entry mil1750 (runs_of cs) x)

abbrev pub unentered : Machine → List Call → List Call
unentered x cs = take (calls_before x cs) cs

-- ---- property 3 of the calls cs, the first given x, and the calls ds, the first given y

-- the findings: the same answers, call by call, and `Found` of what the last calls returned and left
pub record CallsFound (x y : Machine) (cs ds : List Call) : Type 0 where
  pub answers-same : replies cs ≡ replies ds
  pub found : Found x y (final x cs) (final y ds)

-- with the same list of runs, durations included: field by field `Isolated`, of these calls
pub record CallsIsolated (x y : Machine) (cs ds : List Call) : Type 0 where
  -- the first entry is at the same step of the list in both, or in neither
  pub entry : first_entry mil1750 (runs_of cs) x ≡ first_entry mil1750 (runs_of ds) y
  -- where no entry occurs, the findings hold of all the calls
  pub whole : first_entry mil1750 (runs_of cs) x ≡ none → CallsFound x y cs ds
  -- where one occurs, it does so in the same call of both, and the findings hold of the calls before that one
  pub calls : calls_before x cs ≡ calls_before y ds
  pub before : CallsFound x y (unentered x cs) (unentered y ds)

-- with unequal budgets and the same durations step by step: the same findings, answers aside
pub record CallsIsolatedApart (x y : Machine) (cs ds : List Call) : Type 0 where
  pub entry : first_entry mil1750 (runs_of cs) x ≡ first_entry mil1750 (runs_of ds) y
  pub found : first_entry mil1750 (runs_of cs) x ≡ none → Found x y (final x cs) (final y ds)
