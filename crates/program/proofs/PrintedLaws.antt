-- What the program prints, question by question. Assumes nothing.
use Prim.Native.Nat.{ℕ, ◌<◌, ◌≤◌}
use mathlib.Core.List.{List}
use mathlib.Core.Path.{◌≡◌, refl, sym, ap, ◌∙◌}
use lib.ListN.{length}
use borrow.Author.Tests.{eq-eqb, ne_eqb, le-leb, lt-leb}
use Rattle.machine.specs.declared.State.{State}
use Rattle.machine.specs.Machine.{Machine, machine, Became}
use Rattle.machine.specs.Runs.{answer_in, left}
use Rattle.isa.specs.Mil1750.{mil1750}
use Rattle.machine.proofs.MachineLaws.{became-machine}
use Rattle.std.specs.Prelude.{Result, Ok, Err}
use Rattle.image.specs.declared.LoadError.{LoadError}
use Rattle.image.specs.Image as image
use Rattle.report.specs.Report.{refusal_of}
use Rattle.program.specs.Printed.{the_run, unless, length_number, load_number, started, ran_text, printed, afterwards, Holds}

-- a machine holds its own lists, and what became of another
pub holds-own : (x y : Machine) → y ≡ x → Holds y x.memory x.pages x.ports
holds-own x y e = record { state-is = refl; memory-is = ap (λ z. z.memory) (sym e); pages-is = ap (λ z. z.pages) (sym e); ports-is = ap (λ z. z.ports) (sym e) }

pub holds-became : (x y : Machine) {s : State} {m g o : List ℕ} → Became y s m g o → x ≡ y → Holds x m g o
holds-became x y b e = rw e (record { state-is = refl; memory-is = b.memory-is; pages-is = b.pages-is; ports-is = b.ports-is })

-- the lists of two machines that are the same, with any state
pub holds-lists : {s t u : State} {m g o m' g' o' : List ℕ} → machine s m g o ≡ machine t m' g' o' → Holds (machine u m' g' o') m g o
holds-lists e = record { state-is = refl; memory-is = ap (λ z. z.memory) e; pages-is = ap (λ z. z.pages) e; ports-is = ap (λ z. z.ports) e }

-- an input that is too long
pub too_long : (b : List ℕ) → 32768 < length b → printed b ≡ refusal_of 13
unfolding printed unless length_number
too_long b h = rw (lt-leb _ _ h) refl

pub too-long-left : (b : List ℕ) (x : Machine) → 32768 < length b → afterwards b x ≡ x
unfolding afterwards length_number
too-long-left b x h = rw (lt-leb _ _ h) refl

-- any other: the loader's number n decides
pub refused : (b : List ℕ) (n : ℕ) → length b ≤ 32768 → n ≡ load_number b → (n ≡ 0 → ⊥) → printed b ≡ refusal_of n
unfolding printed unless length_number
refused b n h e z = rw (le-leb _ _ h, ← e, ne_eqb _ _ z) refl

pub accepted : (b : List ℕ) (n : ℕ) → length b ≤ 32768 → n ≡ load_number b → n ≡ 0 → printed b ≡ ran_text (started b)
unfolding printed unless length_number
accepted b n h e z = rw (le-leb _ _ h, ← e, eq-eqb _ _ z) refl

pub refused-left : (b : List ℕ) (x : Machine) (n : ℕ) → length b ≤ 32768 → n ≡ load_number b → (n ≡ 0 → ⊥) → afterwards b x ≡ x
unfolding afterwards length_number
refused-left b x n h e z = rw (le-leb _ _ h, ← e, ne_eqb _ _ z) refl

pub accepted-left : (b : List ℕ) (x : Machine) (n : ℕ) → length b ≤ 32768 → n ≡ load_number b → n ≡ 0 → afterwards b x ≡ left mil1750 (started b) the_run
unfolding afterwards length_number
accepted-left b x n h e z = rw (le-leb _ _ h, ← e, eq-eqb _ _ z) refl

-- loading on a machine x of the program's sizes
module _ (b : List ℕ) (x : Machine) (memory : length x.memory ≡ 16384) (pages : length x.pages ≡ 512) (ports : length x.ports ≡ 1024) where
  -- its number is the definition's
  pub number_is : {r : Result State LoadError} {m g o : List ℕ} → image.Outcome b x r m g o → image.number_of (answer_in r) ≡ load_number b
  unfolding load_number image.answer_of
  number_is h = ap image.number_of h.answer-is ∙ rw (memory, pages, ports) refl

  -- and an accepted one leaves the machine that the run starts from
  pub machine-is : {s : State} {m g o : List ℕ} → image.Outcome b x (Ok s) m g o → machine s m g o ≡ started b
  unfolding image.after_loading
  machine-is h = became-machine h.became ∙ rw (← h.answer-is, memory, pages, ports) refl

  -- a refused one leaves x
  pub kept : {e : LoadError} {m g o : List ℕ} → image.Outcome b x (Err e) m g o → machine x.state m g o ≡ x
  unfolding image.after_loading
  kept h = became-machine h.became ∙ rw (← h.answer-is) refl
