-- What the program prints for an input (Scope, "The program" and "Questions at the door"). An input b is the list of its bytes. Assumes nothing.
use Rattle.std.specs.Prelude.{ℕ, cond, List, eqb, leb, length, replicate}
use Rattle.machine.specs.Machine.{Machine, Became}
use Rattle.machine.specs.Runs.{Run, run_of, number_of, answer_of, left}
use Rattle.isa.specs.Mil1750.{mil1750}
use Rattle.image.specs.Image as image
use Rattle.report.specs.Report.{report_of, refusal_of}

-- the program's steps
abbrev pub budget : ℕ
budget = 1000

-- on to the rest, or out with the number of a refusal
unfoldable pub unless : ℕ → List ℕ → List ℕ
unless number rest = cond (eqb number 0) rest (refusal_of number)

-- is the input at most 32,768 bytes? No: 13
unfoldable pub length_number : List ℕ → ℕ
length_number b = cond (leb (length b) 32768) 0 13

-- the loader's questions, with 16,384 words of memory, 512 page registers and 1,024 ports
unfoldable pub load_number : List ℕ → ℕ
load_number b = image.number_of (image.admission b 16384 512 1024)

-- the machine that an accepted image makes
abbrev pub started : List ℕ → Machine
started b = image.loaded b 16384 512 1024

-- the run that it makes: 100 tenths for every duration
abbrev pub the_run : Run
the_run = run_of budget (replicate 257 100)

-- the text after it on the machine x
unfoldable pub ran_text : Machine → List ℕ
ran_text x = unless (number_of (answer_of x the_run)) (report_of budget (left mil1750 x the_run).state)

-- the program: the length, the loader's questions, the run
unfoldable pub printed : List ℕ → List ℕ
printed b = unless (length_number b) (unless (load_number b) (ran_text (started b)))

-- the machine after it, from the machine x that it holds: a refusal leaves that as it was
unfoldable pub afterwards : List ℕ → Machine → Machine
afterwards b x = cond (eqb (length_number b) 0) (cond (eqb (load_number b) 0) (left mil1750 (started b) the_run) x) x

-- memory, page registers and ports are those of the machine x
abbrev pub Holds : Machine → List ℕ → List ℕ → List ℕ → Type 0
Holds x memory pages ports = Became x x.state memory pages ports
