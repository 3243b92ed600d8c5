-- What loading leaves: after a refusal the given machine, else reset and the bodies. Assumes nothing.
use Prim.Native.Nat.{ℕ}
use mathlib.Core.Path.{◌≡◌, refl, sym}
use mathlib.Core.List.{List}
use lib.ListN.{length}
use borrow.Author.Tests.{eq-eqb, ne_eqb}
use Rattle.machine.specs.declared.State.{State}
use Rattle.machine.specs.Machine.{machine, Became}
use Rattle.machine.proofs.MachineLaws.{became-machine, machine-became}
use Rattle.std.specs.Prelude.{Ok, Err}
use Rattle.image.specs.declared.LoadError.{LoadError}
use Rattle.reset.specs.Reset.{reset_machine}
use Rattle.image.specs.Image.{is_empty, count_of, admission, answer_of, with_bodies, loaded, after_loading, Outcome}

module _ (b m g o : List ℕ) (s : State) where
  pub refused : (e : LoadError) → Err e ≡ admission b (length m) (length g) (length o) → Outcome b (machine s m g o) (Err e) m g o
  unfolding after_loading answer_of
  refused e q = record { answer-is = q; became = machine-became (sym (rw (← q) refl)) }

  -- t, m', g' and o' are what reset leaves; with no bytes that is all
  module _ (q : Ok tt ≡ admission b (length m) (length g) (length o)) (t : State) (m' g' o' : List ℕ) (r : Became (reset_machine (length m) (length g) (length o)) t m' g' o') where
    pub bare : length b ≡ 0 → Outcome b (machine s m g o) (Ok t) m' g' o'
    unfolding after_loading loaded answer_of is_empty
    bare n = record { answer-is = q; became = rw (← q, eq-eqb _ _ n) r }

    pub accepted : (length b ≡ 0 → ⊥) → (u : State) (m'' g'' : List ℕ) → Became (with_bodies b (count_of b) 0 (machine t m' g' o')) u m'' g'' o'
        → Outcome b (machine s m g o) (Ok u) m'' g'' o'
    unfolding after_loading loaded answer_of is_empty
    accepted n u m'' g'' w = record { answer-is = q; became = rw (← q, ne_eqb _ _ n, ← became-machine r) w }
