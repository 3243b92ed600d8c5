-- The two calls, question by question; a refusal changes nothing. Assumes nothing.
use Prim.Native.Nat.{ℕ}
use mathlib.Core.Path.{◌≡◌, refl, sym, ap, ◌∙◌}
use mathlib.Core.Bool.{Bool, true, false, cond}
use mathlib.Core.List.{List}
use lib.Dec.{eqb}
use lib.ListN.{length}
use borrow.Author.Tests.{eq-eqb, ne_eqb}
use Rattle.machine.specs.declared.State.{State}
use Rattle.machine.specs.Machine.{Machine, Became}
use Rattle.std.specs.Prelude.{Ok, Err, is_ok}
use Rattle.machine.specs.Runs.{Run, Answer, run_of, number_of, answer_of, left}
use Rattle.machine.proofs.RunLaws.{denied-left}
use Rattle.isa.specs.Mil1750.{mil1750}
use Rattle.image.specs.Image as image
use Rattle.packed.specs.Packed.{size, packed}
use Rattle.capi.specs.Calls.{Reply, Replied, reply, sized, given, loading, running}

-- ---- the questions

-- a number of packed words other than 256
pub unsized : (w : List ℕ) (x : Machine) (rest : Reply) → (length w ≡ size → ⊥) → Replied (sized w x rest) 100 w x.memory x.pages x.ports
unfolding sized reply
unsized w x rest h = rw (ne_eqb _ _ h) (record { answer-is = refl; words-is = refl; memory-is = refl; pages-is = refl; ports-is = refl })

-- 256 packed words: the number n of the answer k decides
module _ (w : List ℕ) (x y : Machine) (k n : ℕ) (whole : length w ≡ size) (is : n ≡ k) where
  module _ {s : State} {m g o : List ℕ} (became : Became y s m g o) where
    pub refused : (n ≡ 0 → ⊥) → Replied (sized w x (reply k w y)) n w m g o
    unfolding sized reply
    refused h = rw (eq-eqb _ _ whole, ← is, ne_eqb _ _ h) (record { answer-is = refl; words-is = refl; memory-is = became.memory-is; pages-is = became.pages-is; ports-is = became.ports-is })

    pub done : n ≡ 0 → (v : List ℕ) → v ≡ packed s → Replied (sized w x (reply k w y)) 0 v m g o
    unfolding sized reply
    done z v e =
        rw (eq-eqb _ _ whole, ← is, z) (record { answer-is = refl; words-is = e ∙ ap packed became.state-is; memory-is = became.memory-is; pages-is = became.pages-is; ports-is = became.ports-is })

-- ---- a refusal changes nothing

-- a reply after the first question, whose answer t is, keeps w and the machine x unless its number is 0
module _ (w : List ℕ) (x y : Machine) (k : ℕ) (same : (k ≡ 0 → ⊥) → y ≡ x) where
  keeps : (t : Bool) → ((cond t (reply k w y) (reply 100 w x)).answer ≡ 0 → ⊥)
      → Replied (cond t (reply k w y) (reply 100 w x)) (cond t (reply k w y) (reply 100 w x)).answer w x.memory x.pages x.ports
  unfolding reply
  keeps true h =
      let e = sym (same h) in
      record { answer-is = refl; words-is = rw (ne_eqb _ _ h) refl; memory-is = ap (λ z. z.memory) e; pages-is = ap (λ z. z.pages) e; ports-is = ap (λ z. z.ports) e }
  keeps false h = record { answer-is = refl; words-is = refl; memory-is = refl; pages-is = refl; ports-is = refl }

-- after a refusal there is the machine that was given
unaccepted : (a : image.Answer) (y x : Machine) → (image.number_of a ≡ 0 → ⊥) → cond (is_ok a) y x ≡ x
unaccepted (Ok u) y x h = absurd (h refl)
unaccepted (Err e) y x h = refl

unmade : (x : Machine) (r : Run) (a : Answer) → answer_of x r ≡ a → (number_of a ≡ 0 → ⊥) → left mil1750 x r ≡ x
unfolding number_of
unmade x r (Ok u) e h = absurd (h refl)
unmade x r (Err w) e h = denied-left mil1750 x r w e

module _ (w memory pages ports : List ℕ) where
  pub loading-keeps : (b : List ℕ) → ((loading w memory pages ports b).answer ≡ 0 → ⊥)
      → Replied (loading w memory pages ports b) (loading w memory pages ports b).answer w memory pages ports
  unfolding loading given sized image.after_loading
  loading-keeps b = keeps w _ _ _ (unaccepted _ _ _) (eqb (length w) size)

  pub running-keeps : (budget : ℕ) (d : List ℕ) → ((running w memory pages ports budget d).answer ≡ 0 → ⊥)
      → Replied (running w memory pages ports budget d) (running w memory pages ports budget d).answer w memory pages ports
  unfolding running given sized
  running-keeps budget d = keeps w _ _ _ (unmade _ (run_of budget d) _ refl) (eqb (length w) size)
