-- Two machines compared, step by step: a step is an entry in both or in neither, and one that is none leads to such a pair again; and so over a timeline.
-- Assumes nothing.
use Prim.Native.Nat.{ℕ}
use mathlib.Core.Path.{◌≡◌, refl, ap, ◌∙◌, subst}
use mathlib.Core.Logic.{◌≢◌}
use mathlib.Core.Bool.{Bool, true, false, true≢false}
use mathlib.Core.List.{List, [], ◌∷◌}
use mathlib.Core.Option.{none}
use native.Mathlib.Omega.{arith}
use lib.Dec.{ltb}
use lib.ListN.{length, get_or}
use Rattle.page.specs.Pages.{MaySee}
use Rattle.page.specs.Spans.{written}
use Rattle.machine.specs.declared.State.{State}
use Rattle.machine.specs.State.{key_of, group_of, with_cs, with_ic, with_sw, with_pi, with_faults, with_hold}
use Rattle.machine.specs.Machine.{Machine, machine, Isa}
use Rattle.machine.specs.Instructions.{Action, enter, call, fail, affect, govern, View}
use Rattle.machine.specs.Entries.{chosen}
use Rattle.machine.specs.Step.{released, begun_from, faulted, affected, stored, perform, ticked, tick, timing, duration, is_entry, begun, action, step}
use Rattle.machine.specs.Timelines.{Item, stepped, steps_later, play, entry_in}
use Rattle.machine.specs.Isolation.{Alike, key, group, Compared, Found}
use Rattle.page.proofs.ReachLaws.{written-barred}
use Rattle.machine.proofs.SameLaws.{Same, written_same}
use Rattle.machine.proofs.InstructionLaws.{view-same, Governed, instructed-governed}
use Rattle.machine.proofs.TimelineLaws.{some≢none, later-none}

-- ---- pairs of machines

-- nothing has happened yet
pub found-start : (x y : Machine) → Compared x y → Found x y x y
found-start x y c = record {
  alike = c.alike;
  seen = c.seen;
  first-kept = λ p n. refl;
  second-kept = λ p n. refl;
  pages-kept = refl;
  key-kept = refl;
  group-kept = refl;
}

-- such a pair may be compared again
pub compared-again : (x y x' y' : Machine) → Compared x y → Found x y x' y' → Compared x' y'
compared-again x y x' y' c f = record {
  alike = f.alike;
  keyed = rw f.key-kept c.keyed;
  seen = rw (f.key-kept, f.group-kept, f.pages-kept) f.seen;
}

-- and what is found then is found of the first pair
pub found-found : (x y x' y' x'' y'' : Machine) → Found x y x' y' → Found x' y' x'' y'' → Found x y x'' y''
found-found x y x' y' x'' y'' f h = record {
  alike = h.alike;
  seen = rw (f.key-kept, f.group-kept, f.pages-kept) at h.seen;
  first-kept = λ p n. (rw (f.key-kept, f.group-kept, f.pages-kept) at h.first-kept) p n ∙ f.first-kept p n;
  second-kept = λ p n. (rw (f.key-kept, f.group-kept, f.pages-kept) at h.second-kept) p n ∙ f.second-kept p n;
  pages-kept = h.pages-kept ∙ f.pages-kept;
  key-kept = h.key-kept ∙ f.key-kept;
  group-kept = h.group-kept ∙ f.group-kept;
}

-- ---- one step of two machines that share all but their memories

pub keeps-key : (sw cs : ℕ) → key_of (with_cs sw cs) ≡ key_of sw
unfolding key_of with_cs
keeps-key sw cs = omega arith

pub keeps-group : (sw cs : ℕ) → group_of (with_cs sw cs) ≡ group_of sw
unfolding group_of with_cs
keeps-group sw cs = omega arith

module _ (isa : Isa) (s : State) (m₁ m₂ g o : List ℕ) (h : Same (MaySee (key_of s.core.sw) (group_of s.core.sw) g) m₁ m₂) where
  action-shared : action isa (machine s m₁ g o) ≡ action isa (machine s m₂ g o)
  unfolding action begun_from released with_hold
  action-shared =
      ap (λ (v : View). begun isa (begun_from s) g o v (chosen s.core) (ltb (chosen s.core) 16)) (view-same (released s.core) m₁ m₂ g h)

  -- so is its duration
  duration-shared : (d : List ℕ) → duration d (machine s m₁ g o) ≡ duration d (machine s m₂ g o)
  unfolding duration
  duration-shared d = ap (λ (v : View). get_or d (timing s.core v (ltb (chosen s.core) 16)) 0) (view-same s.core m₁ m₂ g h)

  -- an action that is no entry and nothing privileged, and a tick of any time
  performed-found : (t : ℕ) (d : Action) → is_entry d ≡ false → Governed (λ r. ⊥) d
      → Found (machine s m₁ g o) (machine s m₂ g o) (tick t (perform (begun_from s) m₁ g o d)) (tick t (perform (begun_from s) m₂ g o d))
  unfolding perform tick is_entry stored begun_from released with_hold faulted affected ticked with_ic with_sw with_pi with_faults
  performed-found t (enter n) e u = absurd (true≢false e)
  performed-found t (call n) e u = absurd (true≢false e)
  performed-found t (fail b a) e u = record {
    alike = record { state = refl; pages = refl; ports = refl; size = h.size };
    seen = h.agree;
    first-kept = λ p n. refl;
    second-kept = λ p n. refl;
    pages-kept = refl;
    key-kept = refl;
    group-kept = refl;
  }
  performed-found t (affect f p) e u =
      let k : ℕ = key_of s.core.sw in
      let a : ℕ = group_of s.core.sw in
      let z : ℕ = length m₂ in
      let w : Same (MaySee k a g) (written k a g z p f.words m₁) (written k a g z p f.words m₂) = written_same k a g z p (MaySee k a g) f.words m₁ m₂ h in
      rw h.size (record {
        alike = record { state = refl; pages = refl; ports = refl; size = w.size };
        seen = w.agree;
        first-kept = λ q n. written-barred k a g z p f.words m₁ q n;
        second-kept = λ q n. written-barred k a g z p f.words m₂ q n;
        pages-kept = refl;
        key-kept = keeps-key s.core.sw f.cs;
        group-kept = keeps-group s.core.sw f.cs;
      })
  performed-found t (govern r) e u = absurd u

  begun-governed : (v : View) → key_of s.core.sw ≢ 0 → (n : ℕ) (b : Bool) → Governed (λ r. ⊥) (begun isa (begun_from s) g o v n b)
  unfolding begun begun_from released with_hold
  begun-governed v k n true = tt
  begun-governed v k n false = instructed-governed isa (begun_from s) v g o (λ r. ⊥) (λ z. absurd (k z))

  step-shared : (d : List ℕ) → key_of s.core.sw ≢ 0 → is_entry (action isa (machine s m₁ g o)) ≡ false
      → Found (machine s m₁ g o) (machine s m₂ g o) (step isa d (machine s m₁ g o)) (step isa d (machine s m₂ g o))
  unfolding step action
  step-shared d k e =
      rw (← action-shared, ← duration-shared d) (performed-found (duration d (machine s m₁ g o)) (action isa (machine s m₁ g o)) e (begun-governed _ k (chosen s.core) (ltb (chosen s.core) 16)))

-- ---- one step of any two machines that are compared

-- the second machine is the first with another memory
shared : (P : Machine → Type 0) (x y : Machine) → Alike x y → P (machine x.state y.memory x.pages x.ports) → P y
shared P x y a h = subst P (λ i. record { state = a.state i; memory = y.memory; pages = a.pages i; ports = a.ports i }) h

same_of : (x y : Machine) → Compared x y → Same (MaySee (key x) (group x) x.pages) x.memory y.memory
same_of x y c = record { size = c.alike.size; agree = c.seen }

pub action-same : (isa : Isa) (x y : Machine) → Compared x y → action isa x ≡ action isa y
action-same isa x y c =
    shared (λ z. action isa x ≡ action isa z) x y c.alike (action-shared isa x.state x.memory y.memory x.pages x.ports (same_of x y c))

pub step-found : (isa : Isa) (d : List ℕ) (x y : Machine) → Compared x y → is_entry (action isa x) ≡ false → Found x y (step isa d x) (step isa d y)
step-found isa d x y c e =
    shared (λ z. Found x z (step isa d x) (step isa d z)) x y c.alike
    (step-shared isa x.state x.memory y.memory x.pages x.ports (same_of x y c) d c.keyed e)

-- ---- a timeline of two machines that are compared: property 3 follows from this induction, for equal lists of runs and for unequal budgets

-- the first entry is at the same step, or there is none in either; and where there is none, the findings
pub record Played (isa : Isa) (t : List Item) (x y : Machine) : Type 0 where
  pub entry : entry_in isa t x ≡ entry_in isa t y
  pub found : entry_in isa t x ≡ none → Found x y (play isa t x) (play isa t y)

-- the first item is a step, and known: an entry, or one that leads to such a pair again
played-step : (isa : Isa) (d : List ℕ) (t : List Item) (x y : Machine) → Compared x y → ((x' y' : Machine) → Compared x' y' → Played isa t x' y')
    → (b : Bool) → is_entry (action isa x) ≡ b → Played isa (stepped d ∷ t) x y
unfolding play entry_in
played-step isa d t x y c ih true e = record {
  entry = rw (← action-same isa x y c, e) refl;
  found = λ h. some≢none 0 (rw e at h);
}
played-step isa d t x y c ih false e =
    let f : Found x y (step isa d x) (step isa d y) = step-found isa d x y c e in
    let p : Played isa t (step isa d x) (step isa d y) = ih (step isa d x) (step isa d y) (compared-again x y _ _ c f) in
    record {
      entry = rw (← action-same isa x y c, e) (ap (steps_later 1) p.entry);
      found = λ h. found-found x y _ _ _ _ f (p.found (later-none 1 _ (rw e at h)));
    }

pub played : (isa : Isa) (t : List Item) (x y : Machine) → Compared x y → Played isa t x y
unfolding play entry_in
played isa [] x y c = record { entry = refl; found = λ h. found-start x y c }
played isa (stepped d ∷ t) x y c = played-step isa d t x y c (λ x' y' c'. played isa t x' y' c') (is_entry (action isa x)) refl
