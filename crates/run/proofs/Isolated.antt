-- Property 3 of what calls of `run` return and leave: from `run`'s contract, and from the theorem about the definitions that it cites. Assumes nothing.
use Prim.Native.Nat.{ℕ, zero, suc}
use mathlib.Core.Path.{◌≡◌, refl, sym, ap, ap₂, ◌∙◌, subst}
use mathlib.Core.List.{List, [], ◌∷◌, ◌++◌}
use mathlib.Core.Option.{Option, none, some}
use lib.ListN.{length, take}
use Rattle.machine.specs.Machine.{Machine, machine}
use Rattle.machine.specs.Timelines.{entry_in}
use Rattle.machine.specs.Runs.{Run, run_of, answer_in, state_in, made, items, cons_unless, left, answers, after_runs, timeline, first_entry, before_entry}
use Rattle.machine.specs.Isolation.{Compared, Findings, Isolated, IsolatedApart}
use Rattle.machine.proofs.MachineLaws.{became-machine}
use Rattle.machine.proofs.Isolation as machines
use Rattle.isa.specs.Mil1750.{mil1750}
use Rattle.run.proofs.run.Reads as reads
use Rattle.run.specs.Calls.{Call, Ensured, resulting, EachEnsured, runs_of, replies, timeline_of, final, calls_before, unentered, CallsFound, CallsIsolated, CallsIsolatedApart}

-- ---- the contract

-- `Ensured` is what a caller learns by `run`'s contract, from what is given (the state, memory, page registers, ports, durations, the budget), what is returned (the answer in it, and the state or after a refusal the given one), and the three lists at the end
pub contract : (κs : _) (given : _) (returned : _) (end : _)
    → ◌≡◌ {A = Type 0} (reads.Learnt κs given returned end)
    (Ensured (machine given.0 given.1.0.now given.1.1.0.now given.1.1.1.0.now)
    (record {
      run = run_of given.1.1.1.1.1.0 given.1.1.1.1.0.now;
      answer = answer_in returned;
      state = state_in returned given.0;
      memory = end.1.0.now;
      pages = end.1.1.0.now;
      ports = end.1.1.1.0.now;
    }))
contract κs given returned end = refl

-- ---- what calls return and leave is what their runs give

-- answers, timeline, and the machine at the end
record AsRuns (x : Machine) (cs : List Call) : Type 0 where
  replies-are : replies cs ≡ answers mil1750 (runs_of cs) x
  timeline-is : timeline_of cs ≡ timeline mil1750 (runs_of cs) x
  final-is : final x cs ≡ after_runs mil1750 (runs_of cs) x

as-runs : (x : Machine) (cs : List Call) → EachEnsured x cs → AsRuns x cs
unfolding answers after_runs timeline items made
as-runs x [] e = record { replies-are = refl; timeline-is = refl; final-is = refl }
as-runs x (c ∷ cs) e =
    let l : resulting c ≡ left mil1750 x c.run = became-machine e.0.1 in
    let r : AsRuns (resulting c) cs = as-runs (resulting c) cs e.1 in
    record {
      replies-are = ap₂ ◌∷◌ e.0.0 (r.replies-are ∙ ap (answers mil1750 (runs_of cs)) l);
      timeline-is = rw e.0.0 (ap (items x c.run ++◌) (r.timeline-is ∙ ap (timeline mil1750 (runs_of cs)) l));
      final-is = r.final-is ∙ ap (after_runs mil1750 (runs_of cs)) l;
    }

-- ---- the first calls of a list

first-ensured : (n : ℕ) (x : Machine) (cs : List Call) → EachEnsured x cs → EachEnsured x (take n cs)
first-ensured zero x cs e = tt
first-ensured (suc n) x [] e = tt
first-ensured (suc n) x (c ∷ cs) e = (e.0, first-ensured n (resulting c) cs e.1)

first_runs : (n : ℕ) (cs : List Call) → runs_of (take n cs) ≡ take n (runs_of cs)
first_runs zero cs = refl
first_runs (suc n) [] = refl
first_runs (suc n) (c ∷ cs) = ap (c.run ∷◌) (first_runs n cs)

-- the runs before the one in which the first entry occurs are the first of the list
before-first : (rs : List Run) (x : Machine) → take (length (before_entry mil1750 rs x)) rs ≡ before_entry mil1750 rs x
unfolding before_entry cons_unless
before-first [] x = refl
before-first (r ∷ rs) x = go (entry_in mil1750 (items x r) x) (before-first rs (left mil1750 x r))
  where
    go : (k : Option ℕ) → take (length (before_entry mil1750 rs (left mil1750 x r))) rs ≡ before_entry mil1750 rs (left mil1750 x r)
        → take (length (cons_unless k r (before_entry mil1750 rs (left mil1750 x r)))) (r ∷ rs) ≡ cons_unless k r (before_entry mil1750 rs (left mil1750 x r))
    go none ih = ap (r ∷◌) ih
    go (some k) ih = refl

unentered-runs : (x : Machine) (cs : List Call) → runs_of (unentered x cs) ≡ before_entry mil1750 (runs_of cs) x
unentered-runs x cs = first_runs (calls_before x cs) cs ∙ before-first (runs_of cs) x

-- ---- the claims

calls_found : (x y : Machine) (cs ds : List Call) → EachEnsured x cs → EachEnsured y ds → runs_of cs ≡ runs_of ds
    → Findings mil1750 (runs_of cs) x y → CallsFound x y cs ds
calls_found x y cs ds e f b h = record {
  answers-same = (as-runs x cs e).replies-are ∙ h.replies ∙ ap (λ (l : List Run). answers mil1750 l y) b ∙ sym (as-runs y ds f).replies-are;
  found = rw ((as-runs x cs e).final-is, (as-runs y ds f).final-is, ← b) h.found;
}

-- calls with the same list of runs, each of which meets `run`'s contract
pub isolated : (x y : Machine) (cs ds : List Call) → Compared x y → EachEnsured x cs → EachEnsured y ds → runs_of cs ≡ runs_of ds → CallsIsolated x y cs ds
isolated x y cs ds c e f b =
    let i : Isolated mil1750 (runs_of cs) x y = machines.isolated mil1750 (runs_of cs) x y c in
    let r : before_entry mil1750 (runs_of cs) x ≡ before_entry mil1750 (runs_of ds) y = i.runs ∙ ap (λ (l : List Run). before_entry mil1750 l y) b in
    record {
      entry = i.entry ∙ ap (λ (l : List Run). first_entry mil1750 l y) b;
      whole = λ n. calls_found x y cs ds e f b (i.whole n);
      calls = ap length r;
      before =
          calls_found x y (unentered x cs) (unentered y ds) (first-ensured (calls_before x cs) x cs e) (first-ensured (calls_before y ds) y ds f)
          (unentered-runs x cs ∙ r ∙ sym (unentered-runs y ds))
          (subst (λ (l : List Run). Findings mil1750 l x y) (sym (unentered-runs x cs)) i.before);
    }

-- calls with unequal budgets that make equally many steps, with the same durations step by step
pub isolated-apart : (x y : Machine) (cs ds : List Call) → Compared x y → EachEnsured x cs → EachEnsured y ds → timeline_of cs ≡ timeline_of ds → CallsIsolatedApart x y cs ds
isolated-apart x y cs ds c e f n =
    let i : IsolatedApart mil1750 (runs_of cs) (runs_of ds) x y =
    machines.isolated-apart mil1750 (runs_of cs) (runs_of ds) x y c (sym (as-runs x cs e).timeline-is ∙ n ∙ (as-runs y ds f).timeline-is)
    in
    record { entry = i.entry; found = λ h. rw ((as-runs x cs e).final-is, (as-runs y ds f).final-is) (i.found h) }
