-- Property 3 holds of the machine with any instruction set. Assumes nothing.
use Prim.Native.Nat.{ℕ}
use mathlib.Core.Path.{◌≡◌, refl, sym, ap, ap₂, ◌∙◌}
use mathlib.Core.List.{List, [], ◌∷◌}
use mathlib.Core.Option.{Option, none, some}
use lib.ListN.{replicate}
use Rattle.machine.specs.Machine.{Machine, Isa}
use Rattle.machine.specs.Timelines.{Item, stepped, steps_later, entry_in}
use Rattle.machine.specs.Runs.{Run, answer_of, steps_of, made, items, cons_unless, left, answers, after_runs, timeline, first_entry, before_entry}
use Rattle.machine.specs.Isolation.{Alike, Compared, Found, Findings, Isolated, IsolatedApart}
use Rattle.machine.proofs.TimelineLaws.{first_or, steps_in}
use Rattle.machine.proofs.RunLaws.{after-play, entry-cons, before-all}
use Rattle.machine.proofs.StepLaws.{found-start, compared-again, found-found, Played, played}

-- ---- one run of both

-- the checks before a run get the same answer, so that its items are the same
answer-same : (x y : Machine) → Alike x y → (r : Run) → answer_of x r ≡ answer_of y r
unfolding answer_of
answer-same x y a r = rw (a.size, a.pages, a.ports, a.state)

items-same : (x y : Machine) → Alike x y → (r : Run) → items x r ≡ items y r
unfolding items made
items-same x y a r = ap (λ z. replicate (steps_of z r.budget) (stepped r.durations)) (answer-same x y a r)

-- all that is used of a run: its first entry is at the same step; where it has none, answers, items and findings are the same
record OneRun (isa : Isa) (r : Run) (x y : Machine) : Type 0 where
  entry : entry_in isa (items x r) x ≡ entry_in isa (items y r) y
  reply : entry_in isa (items x r) x ≡ none → answer_of x r ≡ answer_of y r
  same : entry_in isa (items x r) x ≡ none → items x r ≡ items y r
  found : entry_in isa (items x r) x ≡ none → Found x y (left isa x r) (left isa y r)

one-run : (isa : Isa) (r : Run) (x y : Machine) → Compared x y → OneRun isa r x y
unfolding left
one-run isa r x y c =
    let s : items x r ≡ items y r = items-same x y c.alike r in
    let p : Played isa (items x r) x y = played isa (items x r) x y c in
    record { entry = rw (← s) p.entry; reply = λ e. answer-same x y c.alike r; same = λ e. s; found = λ e. rw (← s) (p.found e) }

-- ---- equal lists of runs

-- all of `Isolated` but `whole`, which follows from the rest
record Before (isa : Isa) (rs : List Run) (x y : Machine) : Type 0 where
  entry : first_entry isa rs x ≡ first_entry isa rs y
  runs : before_entry isa rs x ≡ before_entry isa rs y
  before : Findings isa (before_entry isa rs x) x y

findings-none : (isa : Isa) (x y : Machine) → Compared x y → Findings isa [] x y
unfolding answers after_runs
findings-none isa x y c = record { replies = refl; found = found-start x y c }

-- what is found of a run, and of those after it, is found of all
findings-cons : (isa : Isa) (r : Run) (rs : List Run) (x y : Machine) → answer_of x r ≡ answer_of y r → Found x y (left isa x r) (left isa y r)
    → Findings isa rs (left isa x r) (left isa y r) → Findings isa (r ∷ rs) x y
unfolding answers after_runs
findings-cons isa r rs x y a f h = record {
  replies = ap₂ ◌∷◌ a h.replies;
  found = found-found x y _ _ _ _ f h.found;
}

-- the first entry is in the first run, or that leads to a pair that may be compared again
before-cons : (isa : Isa) (r : Run) (rs : List Run) (x y : Machine) → Compared x y → OneRun isa r x y
    → ((x' y' : Machine) → Compared x' y' → Before isa rs x' y')
    → (k : Option ℕ) → entry_in isa (items x r) x ≡ k → entry_in isa (items y r) y ≡ k → Before isa (r ∷ rs) x y
unfolding before_entry cons_unless first_or
before-cons isa r rs x y c o ih (some k) e e' = record {
  entry = rw (entry-cons isa r rs x, entry-cons isa r rs y, e, e') refl;
  runs = rw (e, e') refl;
  before = rw e (findings-none isa x y c);
}
before-cons isa r rs x y c o ih none e e' =
    let i : Before isa rs (left isa x r) (left isa y r) = ih _ _ (compared-again x y _ _ c (o.found e)) in
    record {
      entry = rw (entry-cons isa r rs x, entry-cons isa r rs y, e, e', o.same e) (ap (steps_later (steps_in (items y r))) i.entry);
      runs = rw (e, e') (ap (r ∷◌) i.runs);
      before = rw e (findings-cons isa r _ x y (o.reply e) (o.found e) i.before);
    }

before-entry : (isa : Isa) (rs : List Run) (x y : Machine) → Compared x y → Before isa rs x y
unfolding first_entry timeline before_entry entry_in
before-entry isa [] x y c = record { entry = refl; runs = refl; before = findings-none isa x y c }
before-entry isa (r ∷ rs) x y c =
    let o : OneRun isa r x y = one-run isa r x y c in
    before-cons isa r rs x y c o (λ x' y' c'. before-entry isa rs x' y' c') _ refl (sym o.entry)

pub isolated : (isa : Isa) (rs : List Run) (x y : Machine) → Compared x y → Isolated isa rs x y
isolated isa rs x y c =
    let i : Before isa rs x y = before-entry isa rs x y c in
    record { entry = i.entry; whole = λ h. rw (before-all isa rs x h) at i.before; runs = i.runs; before = i.before }

-- ---- "Lists of unequal budgets that make equally many steps leave the same findings, answers aside": with the same durations step by step, their timelines are equal

pub isolated-apart : (isa : Isa) (rs qs : List Run) (x y : Machine) → Compared x y → timeline isa rs x ≡ timeline isa qs y → IsolatedApart isa rs qs x y
unfolding first_entry
isolated-apart isa rs qs x y c t =
    let p : Played isa (timeline isa rs x) x y = played isa (timeline isa rs x) x y c in
    record {
      entry = p.entry ∙ ap (λ (u : List Item). entry_in isa u y) t;
      found = λ h. rw (after-play isa rs x, after-play isa qs y, ← t) (p.found h);
    }
