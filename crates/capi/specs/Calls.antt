-- The two calls of the C interface on packed words w, memory, page registers and ports: what they answer and leave. Assumes nothing.
use Rattle.std.specs.Prelude.{ℕ, cond, List, ◌≡◌, eqb, length}
use Rattle.machine.specs.Machine.{Machine, machine}
use Rattle.machine.specs.Runs.{run_of, number_of, answer_of, left}
use Rattle.isa.specs.Mil1750.{mil1750}
use Rattle.image.specs.Image as image
use Rattle.packed.specs.Packed.{size, unpacked, packed}

-- the answer to a call, and what it leaves of the packed words, memory, page registers and ports
pub record Reply : Type 0 where
  pub answer : ℕ
  pub words : List ℕ
  pub memory : List ℕ
  pub pages : List ℕ
  pub ports : List ℕ

-- a number and four lists are the parts of a reply: what a function that is lent the lists ensures
pub record Replied (p : Reply) (answer : ℕ) (words memory pages ports : List ℕ) : Type 0 where
  pub answer-is : answer ≡ p.answer
  pub words-is : words ≡ p.words
  pub memory-is : memory ≡ p.memory
  pub pages-is : pages ≡ p.pages
  pub ports-is : ports ≡ p.ports

-- the reply with the number n that leaves the machine y: its state is packed when n is 0, and w is kept by a refusal
unfoldable pub reply : ℕ → List ℕ → Machine → Reply
reply n w y = record { answer = n; words = cond (eqb n 0) (packed y.state) w; memory = y.memory; pages = y.pages; ports = y.ports }

-- the first question: are there exactly 256 packed words? No: 100, and the machine x stays
unfoldable pub sized : List ℕ → Machine → Reply → Reply
sized w x rest = cond (eqb (length w) size) rest (reply 100 w x)

module _ (w memory pages ports : List ℕ) where
  -- the machine that is given
  unfoldable pub given : Machine
  given = machine (unpacked w) memory pages ports

  -- loading the image b
  unfoldable pub loading : List ℕ → Reply
  loading b = sized w given (reply (image.number_of (image.answer_of b given)) w (image.after_loading b given))

  -- a run with the durations d
  unfoldable pub running : ℕ → List ℕ → Reply
  running budget d = sized w given (reply (number_of (answer_of given (run_of budget d))) w (left mil1750 given (run_of budget d)))
