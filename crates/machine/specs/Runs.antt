-- Runs with the checks before them (Scope, "Questions at the door"), and lists of runs with their timelines (Scope, "Two machines compared"). Assumes nothing.
use Rattle.std.specs.Prelude.{ℕ, ◌+◌, ◌%◌, Bool, true, false, ◌&&◌, List, [], ◌∷◌, ◌++◌, Result, Ok, Err, ⊤, eqb, leb, length, replicate}
use Rattle.std.proofs.Math.Option.{Option, none, some}
use Rattle.machine.specs.declared.State.{State}
use Rattle.machine.specs.declared.SizeError.{SizeError}
use Rattle.machine.specs.declared.SizeError.TheVariants.{BadMemory, BadPages, BadPorts}
use Rattle.machine.specs.declared.RunError.{RunError}
use Rattle.machine.specs.declared.RunError.TheVariants.{BadSize, BadDurations, BadBudget, BadCounter}
use Rattle.machine.specs.Machine.{Machine, Isa}
use Rattle.machine.specs.Timelines.{Item, stepped, play, entry_in}

-- a run, by what its caller chooses besides the machine
pub record Run : Type 0 where
  pub budget : ℕ
  pub durations : List ℕ

-- the run of a budget with durations
abbrev pub run_of : ℕ → List ℕ → Run
run_of budget d = record { budget = budget; durations = d }

-- ---- the checks before a run, in their order

-- the answer to a run: its budget is spent, or what the first question answered by "no" was about
abbrev pub Answer : Type 0
Answer = Result ⊤ RunError

-- the Scope's number of a size, and of an answer; 0: the budget is spent
unfoldable pub size_number : SizeError → ℕ
size_number BadMemory = 1
size_number BadPages = 2
size_number BadPorts = 3

unfoldable pub number_of : Answer → ℕ
number_of (Ok u) = 0
number_of (Err (BadSize e)) = size_number e
number_of (Err BadDurations) = 17
number_of (Err BadBudget) = 4
number_of (Err BadCounter) = 5

-- a multiple of 4,096 words, from 4,096 to 1,048,576
unfoldable pub whole_pages : ℕ → Bool
whole_pages n = eqb (n % 4096) 0 && (leb 4096 n && leb n 1048576)

-- a question: on to the rest, or out with what it was about
unfoldable pub asked : {E : Type 0} → Bool → E → Result ⊤ E → Result ⊤ E
asked true out rest = rest
asked false out rest = Err out

-- several questions: on to the rest, or out with what the first answered by "no" was about
unfoldable pub asked_all : {D E : Type 0} → (D → E) → Result ⊤ D → Result ⊤ E → Result ⊤ E
asked_all out (Ok u) rest = rest
asked_all out (Err e) rest = Err (out e)

-- the questions that runs and loading share, about the sizes of memory, page registers and ports
unfoldable pub sizes_answer : ℕ → ℕ → ℕ → Result ⊤ SizeError
sizes_answer memory pages ports =
    asked (whole_pages memory) BadMemory
    (asked (eqb pages 512) BadPages
    (asked (eqb ports 1024) BadPorts
    (Ok tt)))

-- the answer to a run, from the sizes of memory, page registers, ports and durations, the counter and the budget; "17 when the list is not 257 long, after number 3 in running"
unfoldable pub admission : ℕ → ℕ → ℕ → ℕ → ℕ → ℕ → Answer
admission memory pages ports durations count budget =
    asked_all BadSize (sizes_answer memory pages ports)
    (asked (eqb durations 257) BadDurations
    (asked (leb budget 1000000) BadBudget
    (asked (leb (count + budget) 4294967295) BadCounter
    (Ok tt))))

-- what a call hands back, a state or why it is refused: its answer, and the state that its caller has then, which after a refusal is the given one
abbrev pub answer_in : {E : Type 0} → Result State E → Result ⊤ E
answer_in (Ok s) = Ok tt
answer_in (Err e) = Err e

abbrev pub state_in : {E : Type 0} → Result State E → State → State
state_in (Ok s) given = s
state_in (Err e) given = given

-- ---- one run

-- "Its answer is all it replies besides the state"
unfoldable pub answer_of : Machine → Run → Answer
answer_of x r = admission (length x.memory) (length x.pages) (length x.ports) (length r.durations) x.state.clock.count r.budget

-- "An accepted run makes exactly its budget of steps"; a refused one makes none
unfoldable pub steps_of : Answer → ℕ → ℕ
steps_of (Ok u) budget = budget
steps_of (Err e) budget = 0

-- the number of steps that a run makes
unfoldable pub made : Machine → Run → ℕ
made x r = steps_of (answer_of x r) r.budget

-- its items: these steps, each with its durations
unfoldable pub items : Machine → Run → List Item
items x r = replicate (made x r) (stepped r.durations)

-- the run r comes before the rest, unless it has an entry
unfoldable pub cons_unless : Option ℕ → Run → List Run → List Run
cons_unless none r rs = r ∷ rs
cons_unless (some k) r rs = []

module _ (isa : Isa) where
  -- n steps with the durations d
  unfoldable pub steps : List ℕ → ℕ → Machine → Machine
  steps d n x = play isa (replicate n (stepped d)) x

  -- what a run leaves
  unfoldable pub left : Machine → Run → Machine
  left x r = play isa (items x r) x

  -- ---- a list of runs: "each run gets the state, memory, page registers and ports that the one before returned or left"

  -- their answers, run by run
  unfoldable pub answers : List Run → Machine → List Answer
  answers [] x = []
  answers (r ∷ rs) x = answer_of x r ∷ answers rs (left x r)

  -- what the last one leaves
  unfoldable pub after_runs : List Run → Machine → Machine
  after_runs [] x = x
  after_runs (r ∷ rs) x = after_runs rs (left x r)

  -- their timeline: the items of all of them
  unfoldable pub timeline : List Run → Machine → List Item
  timeline [] x = []
  timeline (r ∷ rs) x = items x r ++ timeline rs (left x r)

  -- the first entry; "steps are counted over the whole list"
  unfoldable pub first_entry : List Run → Machine → Option ℕ
  first_entry rs x = entry_in isa (timeline rs x) x

  -- the runs before the one in which the first entry occurs; all of them where there is none
  unfoldable pub before_entry : List Run → Machine → List Run
  before_entry [] x = []
  before_entry (r ∷ rs) x = cons_unless (entry_in isa (items x r) x) r (before_entry rs (left x r))
