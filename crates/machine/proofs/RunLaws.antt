-- Lists of runs: their timelines, and the runs before the first entry. Assumes nothing.
use Prim.Native.Nat.{ℕ, suc}
use mathlib.Core.Path.{◌≡◌, refl, sym, ap, ◌∙◌}
use mathlib.Core.Bool.{Bool, true, false}
use mathlib.Core.List.{List, [], ◌∷◌}
use borrow.Author.Tests.{eqb-true}
use mathlib.Core.Option.{Option, none, some}
use Rattle.std.specs.Prelude.{Result, Ok, Err, ⊤}
use native.Mathlib.Omega.{arith}
use Rattle.machine.specs.declared.SizeError.TheVariants.{BadMemory, BadPages, BadPorts}
use Rattle.machine.specs.declared.RunError.{RunError}
use Rattle.machine.specs.declared.RunError.TheVariants.{BadSize, BadDurations, BadBudget, BadCounter}
use Rattle.machine.specs.Machine.{Machine, Isa}
use Rattle.machine.specs.Step.{step}
use Rattle.machine.specs.Timelines.{steps_later, play, entry_in}
use Rattle.machine.specs.Runs.{Run, Answer, size_number, number_of, answer_of, steps_of, asked, asked_all, sizes_answer, made, items, cons_unless, steps, left, after_runs, timeline, first_entry, before_entry}
use Rattle.machine.proofs.TimelineLaws.{some≢none, later-none, first_or, play-append, steps_in, entry-append}

-- ---- questions that were answered by "yes"

pub asked-yes : {E : Type 0} (t : Bool) (out : E) (rest : Result ⊤ E) → asked t out rest ≡ Ok tt → (t ≡ true) × (rest ≡ Ok tt)
unfolding asked
asked-yes true out rest h = (refl, h)
asked-yes false out rest h = cc

pub asked_all-yes : {D E : Type 0} (out : D → E) (a : Result ⊤ D) (rest : Result ⊤ E) → asked_all out a rest ≡ Ok tt → (a ≡ Ok tt) × (rest ≡ Ok tt)
unfolding asked_all
asked_all-yes out (Ok u) rest h = (refl, h)
asked_all-yes out (Err e) rest h = cc

pub sizes-fit : (memory pages ports : ℕ) → sizes_answer memory pages ports ≡ Ok tt → (pages ≡ 512) × (ports ≡ 1024)
unfolding sizes_answer
sizes-fit memory pages ports h =
    let p = asked-yes _ _ _ (asked-yes _ _ _ h).1 in
    (eqb-true _ _ p.0, eqb-true _ _ (asked-yes _ _ _ p.1).0)

-- ---- one run

-- no refusal has the number 0
pub number-refused : (e : RunError) → number_of (Err e) ≡ 0 → ⊥
unfolding number_of size_number
number-refused (BadSize BadMemory) h = omega arith
number-refused (BadSize BadPages) h = omega arith
number-refused (BadSize BadPorts) h = omega arith
number-refused BadDurations h = omega arith
number-refused BadBudget h = omega arith
number-refused BadCounter h = omega arith

-- an accepted run makes its budget of steps, and a refused one changes nothing
pub accepted-left : (isa : Isa) (x : Machine) (r : Run) (u : ⊤) → answer_of x r ≡ Ok u → left isa x r ≡ steps isa r.durations r.budget x
unfolding left items made steps_of steps
accepted-left isa x r u e = rw e refl

pub denied-left : (isa : Isa) (x : Machine) (r : Run) (w : RunError) → answer_of x r ≡ Err w → left isa x r ≡ x
unfolding left items made steps_of play
denied-left isa x r w e = rw e refl

-- the same by the number of the answer
pub spent-left : (isa : Isa) (x : Machine) (r : Run) → number_of (answer_of x r) ≡ 0 → left isa x r ≡ steps isa r.durations r.budget x
spent-left isa x r h = by (answer_of x r) refl h
  where
    by : (a : Answer) → answer_of x r ≡ a → number_of a ≡ 0 → left isa x r ≡ steps isa r.durations r.budget x
    by (Ok u) e k = accepted-left isa x r u e
    by (Err w) e k = absurd (number-refused w k)

pub refused-left : (isa : Isa) (x : Machine) (r : Run) → (number_of (answer_of x r) ≡ 0 → ⊥) → left isa x r ≡ x
unfolding number_of
refused-left isa x r h = by (answer_of x r) refl h
  where
    by : (a : Answer) → answer_of x r ≡ a → (number_of a ≡ 0 → ⊥) → left isa x r ≡ x
    by (Ok u) e k = absurd (k refl)
    by (Err w) e k = denied-left isa x r w e

-- the steps of a loop: none, and one more
pub steps-zero : (isa : Isa) (d : List ℕ) (x : Machine) → steps isa d 0 x ≡ x
unfolding steps play
steps-zero isa d x = refl

pub steps-suc : (isa : Isa) (d : List ℕ) (n : ℕ) (x : Machine) → steps isa d (suc n) x ≡ steps isa d n (step isa d x)
unfolding steps play
steps-suc isa d n x = refl

-- ---- a list of runs is its timeline

pub after-play : (isa : Isa) (rs : List Run) (x : Machine) → after_runs isa rs x ≡ play isa (timeline isa rs x) x
unfolding after_runs timeline left play
after-play isa [] x = refl
after-play isa (r ∷ rs) x = after-play isa rs (left isa x r) ∙ sym (play-append isa (items x r) (timeline isa rs (left isa x r)) x)

-- the first entry is in the first run, or among the others
pub entry-cons : (isa : Isa) (r : Run) (rs : List Run) (x : Machine)
    → first_entry isa (r ∷ rs) x ≡ first_or (entry_in isa (items x r) x) (steps_later (steps_in (items x r)) (first_entry isa rs (left isa x r)))
unfolding first_entry timeline left
entry-cons isa r rs x = entry-append isa (items x r) (timeline isa rs (left isa x r)) x

-- ---- the runs before the one in which the first entry occurs

-- are all runs where there is no entry
pub before-all : (isa : Isa) (rs : List Run) (x : Machine) → first_entry isa rs x ≡ none → before_entry isa rs x ≡ rs
unfolding before_entry first_or cons_unless
before-all isa [] x h = refl
before-all isa (r ∷ rs) x h = go (entry_in isa (items x r) x) (before-all isa rs (left isa x r)) (sym (entry-cons isa r rs x) ∙ h)
  where
    go : (k : Option ℕ) → (first_entry isa rs (left isa x r) ≡ none → before_entry isa rs (left isa x r) ≡ rs)
        → first_or k (steps_later (steps_in (items x r)) (first_entry isa rs (left isa x r))) ≡ none → cons_unless k r (before_entry isa rs (left isa x r)) ≡ r ∷ rs
    go none ih e = ap (r ∷◌) (ih (later-none _ _ e))
    go (some k) ih e = some≢none k e
