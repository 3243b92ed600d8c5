-- A case (docs/TEST-CASES.md): the machine that its entries make, its run, and the text of what comes of it. Assumes nothing.
use Rattle.std.specs.Prelude.{◌≡◌, ℕ, zero, suc, ◌<◌, Bool, true, false, cond, List, [], ◌++◌, length, take, drop, replicate, get_or, ◌==◌, slice_index, slice_set}
use Rattle.machine.specs.declared.State.{State}
use Rattle.machine.specs.Machine.{Machine, machine}
use Rattle.machine.specs.Runs.{Run, run_of, number_of, answer_of, made, left}
use Rattle.isa.specs.Mil1750.{mil1750}
use Rattle.reset.specs.Reset.{reset_machine}
use Rattle.report.specs.Report.{report_of}
use Rattle.test_case_line.specs.Fields.{with_word}
use Rattle.test_case_line.specs.Texts.{case_line, time_line, remainder_line, mfs_line, entry_line}
use Rattle.test_case_line.specs.declared.kind.Kind.{Kind}
use Rattle.test_case_line.specs.declared.kind.Kind.TheVariants.{Memory, Page, Port, Duration, Length}
use Rattle.test_case_line.specs.declared.kind.Lent.{Lent}
use Rattle.test_case_line.specs.declared.kind.Lent.TheVariants.{Memory as Words, Pages, Ports, Durations}
use Rattle.test_case_line.specs.Lent.{lent_of}
use Rattle.test_case.specs.declared.case.Lengths.{Lengths}
use Rattle.test_case.specs.declared.case.Case.{Case as Held}

-- the machine before the run, the durations, how many words of memory, page registers, ports and durations the run is lent, and whether an entry names a duration
pub record Case : Type 0 where
  pub before : Machine
  pub durations : List ℕ
  pub lengths : Lengths
  pub timed : Bool

abbrev pub lengths : ℕ → ℕ → ℕ → ℕ → Lengths
lengths m g o d = record { memory = m; pages = g; ports = o; durations = d }

abbrev pub case : Machine → List ℕ → Lengths → Bool → Case
case x d l t = record { before = x; durations = d; lengths = l; timed = t }

-- a case as the code holds it
unfoldable pub case_of : Held → Case
case_of c = case (machine c.state c.memory c.pages c.ports) c.durations c.lengths c.timed

-- a case without an entry: the machine after reset and 100 tenths for each duration, all of it lent
unfoldable pub fresh : Case
fresh = case (reset_machine 16384 512 1024) (replicate 257 100) (lengths 16384 512 1024 257) false

-- ---- entries: a kind, a number n and a word w

-- how many words of a list are lent
abbrev pub lending : Lengths → Lent → ℕ → Lengths
lending l Words w = lengths w l.pages l.ports l.durations
lending l Pages w = lengths l.memory w l.ports l.durations
lending l Ports w = lengths l.memory l.pages w l.durations
lending l Durations w = lengths l.memory l.pages l.ports w

-- a duration, or all of them (257)
unfoldable pub with_duration : List ℕ → ℕ → ℕ → List ℕ
with_duration d n w = cond (n == 257) (replicate 257 w) (slice_set d n w)

-- a word of memory, a page register, a port, else a word of the state
unfoldable pub changed : Machine → Kind → ℕ → ℕ → Machine
changed x Memory n w = machine x.state (slice_set x.memory n w) x.pages x.ports
changed x Page n w = machine x.state x.memory (slice_set x.pages n w) x.ports
changed x Port n w = machine x.state x.memory x.pages (slice_set x.ports n w)
changed x k n w = machine (with_word x.state n w) x.memory x.pages x.ports

-- any entry but the run
unfoldable pub entered : Case → Kind → ℕ → ℕ → Case
entered c Length n w = case c.before c.durations (lending c.lengths (lent_of n) w) c.timed
entered c Duration n w = case c.before (with_duration c.durations n w) c.lengths true
entered c k n w = case (changed c.before k n w) c.durations c.lengths c.timed

-- ---- the run, of a budget b

-- the machine that it is lent: the first words of each list
unfoldable pub lent : Case → Machine
lent c =
    let x = c.before in
    machine x.state (take c.lengths.memory x.memory) (take c.lengths.pages x.pages) (take c.lengths.ports x.ports)

-- it is lent the first durations
abbrev pub case_run : Case → ℕ → Run
case_run c b = run_of b (take c.lengths.durations c.durations)

-- the machine y after it with the words that were not lent, which are as they were
unfoldable pub rejoined : Case → Machine → Machine
rejoined c y =
    let x = c.before in
    machine y.state (y.memory ++ drop c.lengths.memory x.memory) (y.pages ++ drop c.lengths.pages x.pages) (y.ports ++ drop c.lengths.ports x.ports)

unfoldable pub ran : Case → ℕ → Machine
ran c b = rejoined c (left mil1750 (lent c) (case_run c b))

-- ---- the text of what comes of it

-- the line of word n, where it has changed
unfoldable pub change_line : ℕ → ℕ → ℕ → ℕ → List ℕ
change_line k n old new = cond (old == new) [] (entry_line k n new)

-- the lines of the first n words, under the kind letter k
unfoldable pub changes_to : ℕ → List ℕ → List ℕ → ℕ → List ℕ
changes_to k before after zero = []
changes_to k before after (suc n) = changes_to k before after n ++ change_line k n (slice_index before n) (slice_index after n)

-- the first n words of two lists are the same
abbrev pub Same : List ℕ → List ℕ → ℕ → Type 0
Same before after n = (k : ℕ) → k < n → get_or before k 0 ≡ get_or after k 0

-- of all words
unfoldable pub changes : ℕ → List ℕ → List ℕ → List ℕ
changes k before after = changes_to k before after (length after)

-- the case's number, the number of the run's answer, the steps made, the state; where an entry names a duration, the remainders; the memory
-- fault status, where it is not 0
unfoldable pub state_lines : ℕ → ℕ → ℕ → Bool → State → List ℕ
state_lines n answer steps timed s = case_line n answer ++ (report_of steps s ++ (time_line s ++ (cond timed (remainder_line s) [] ++ cond (s.core.faults.mfs == 0) [] (mfs_line s))))

-- case number n: its state, then the words of memory, page registers and ports that have changed
unfoldable pub case_text : ℕ → ℕ → Case → List ℕ
case_text n b c =
    let x = c.before in
    let y = ran c b in
    state_lines n (number_of (answer_of (lent c) (case_run c b))) (made (lent c) (case_run c b)) c.timed y.state
    ++ (changes 77 x.memory y.memory
    ++ (changes 80 x.pages y.pages
    ++ changes 79 x.ports y.ports))
