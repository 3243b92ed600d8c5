-- Timelines one after another: what they lead to, their steps, and the first entry. Assumes nothing.
use Prim.Native.Nat.{ℕ, suc, ◌+◌}
use mathlib.Core.Path.{◌≡◌, refl, sym, ap, ◌∙◌}
use mathlib.Core.Bool.{Bool, true, false, cond}
use mathlib.Core.List.{List, [], ◌∷◌, ◌++◌}
use mathlib.Core.Option.{Option, none, some}
use native.Mathlib.Omega.{arith}
use native.Mathlib.Nat.{zero-add}
use Rattle.machine.specs.Machine.{Machine, Isa}
use Rattle.machine.specs.Step.{is_entry, action, step}
use Rattle.machine.specs.Timelines.{Item, stepped, steps_later, play, entry_in}

-- ---- the number of a step

pub some≢none : {A : Type 0} (k : ℕ) → some k ≡ none → A
some≢none k e = let z : ◌≡◌ {A = ℕ} 0 1 = cc in absurd (omega arith)

pub later-none : (n : ℕ) (r : Option ℕ) → steps_later n r ≡ none → r ≡ none
unfolding steps_later
later-none n none e = refl
later-none n (some k) e = some≢none (n + k) e

-- the first of two
unfoldable pub first_or : Option ℕ → Option ℕ → Option ℕ
first_or none r = r
first_or (some k) r = some k

later-zero : (r : Option ℕ) → steps_later 0 r ≡ r
unfolding steps_later
later-zero none = refl
later-zero (some k) = ap some (zero-add k)

later-suc : (n : ℕ) (e r : Option ℕ) → steps_later 1 (first_or e (steps_later n r)) ≡ first_or (steps_later 1 e) (steps_later (suc n) r)
unfolding steps_later first_or
later-suc n none none = refl
later-suc n none (some k) = ap some (omega arith)
later-suc n (some j) r = refl

here-first : (b : Bool) (e r : Option ℕ) → cond b (some 0) (first_or e r) ≡ first_or (cond b (some 0) e) r
unfolding first_or
here-first true e r = refl
here-first false e r = refl

-- ---- one timeline after another

pub play-append : (isa : Isa) (t u : List Item) (x : Machine) → play isa (t ++ u) x ≡ play isa u (play isa t x)
unfolding play
play-append isa [] u x = refl
play-append isa (stepped d ∷ t) u x = play-append isa t u (step isa d x)

-- how many steps a timeline has
unfoldable pub steps_in : List Item → ℕ
steps_in [] = 0
steps_in (stepped d ∷ t) = suc (steps_in t)

pub entry-append : (isa : Isa) (t u : List Item) (x : Machine) → entry_in isa (t ++ u) x ≡ first_or (entry_in isa t x) (steps_later (steps_in t) (entry_in isa u (play isa t x)))
unfolding entry_in play steps_in first_or
entry-append isa [] u x = sym (later-zero _)
entry-append isa (stepped d ∷ t) u x =
    let e : Option ℕ = entry_in isa t (step isa d x) in
    let r : Option ℕ = entry_in isa u (play isa t (step isa d x)) in
    ap (cond (is_entry (action isa x)) (some 0)) (ap (steps_later 1) (entry-append isa t u (step isa d x)) ∙ later-suc (steps_in t) e r)
    ∙ here-first (is_entry (action isa x)) (steps_later 1 e) (steps_later (suc (steps_in t)) r)
