-- Machines that differ and that property 3 compares: in a word of a page whose lock refuses the key, and in one of a page that no register names. Assumes nothing.
use Prim.Native.Nat.{ℕ, ◌/◌, ◌<◌}
use mathlib.Core.Path.{◌≡◌, refl, sym, ap, ◌∙◌, subst}
use mathlib.Core.Bool.{Bool, true, not, ◌||◌, ◌&&◌}
use mathlib.Core.List.{List, ◌∷◌, ◌++◌}
use mathlib.Core.Logic.{◌≢◌, ⊎_elim}
use native.Mathlib.Omega.{arith}
use lib.Dec.{T, T_not, eqb}
use lib.ListN.{get_or, set, replicate, length-replicate, get_or-append}
use borrow.Author.Tests.{eqb-true}
use Rattle.choice.proofs.TestLaws.{each, either, passes}
use Rattle.page.specs.declared.Access.{Access}
use Rattle.page.specs.declared.Access.TheVariants.{Fetch, Read}
use Rattle.page.specs.Pages.{lock_of, frame_of, register_at, admits, May, MaySee}
use Rattle.machine.specs.Machine.{Machine, machine}
use Rattle.machine.specs.State.{key_of, group_of, reset_state, with_ic, with_sw}
use Rattle.machine.specs.Runs.{run_of, number_of, answer_of}
use Rattle.machine.specs.Isolation.{Compared}
use Rattle.machine.proofs.Opened.{machinery}
use Rattle.machine.proofs.Samples.{state_at, hundreds}

-- every register names page 0 and admits every key, but those of logical page 1 in address state 0: they name page 1 and have lock 5
abbrev registers : List ℕ
registers = set (set (replicate 512 0xF000) 1 0x5001) 257 0x5001

-- pages 1 and 2: 0 but for the first word of each
abbrev beyond : ℕ → ℕ → List ℕ
beyond v w = (v ∷ replicate 4095 0) ++ (w ∷ replicate 4095 0)

-- key 3 in address state 0, and three pages, the first of them 0
abbrev pub holding : ℕ → ℕ → Machine
holding v w = machine (state_at (replicate 16 0) 0 0x0030) (replicate 4096 0 ++ beyond v w) registers (replicate 1024 0)

-- ---- key 3 sees page 0 alone

-- a register refuses the key, or names page 0
unfoldable bounded : Access → ℕ → Bool
bounded k page = let w = get_or registers (register_at k 0 page) 0 in not (admits 3 (lock_of w)) || eqb (frame_of w) 0

in-page-0 : (k : Access) → each (bounded k) 16 ≡ true → (p : ℕ) → May k 3 0 registers p → p < 4096
unfolding bounded
in-page-0 k t p m =
    let w = get_or registers (register_at k 0 m.page) 0 in
    either (not (admits 3 (lock_of w))) (eqb (frame_of w) 0)
    (λ u. absurd (T_not (admits 3 (lock_of w)) (subst T (sym u) tt) m.admitted))
    (λ u. let e : frame_of w ≡ 0 = eqb-true _ _ u in let f : frame_of w ≡ p / 4096 = m.frame in omega arith)
    (passes (bounded k) 16 t m.page m.below)

bounded-fetch : each (bounded Fetch) 16 ≡ true
unfolding machinery bounded
bounded-fetch = refl

bounded-read : each (bounded Read) 16 ≡ true
unfolding machinery bounded
bounded-read = refl

seen-in-page-0 : (p : ℕ) → MaySee 3 0 registers p → p < 4096
seen-in-page-0 p s = ⊎_elim (in-page-0 Fetch bounded-fetch p) (in-page-0 Read bounded-read p) s

-- ---- the pairs

first-page : (m : List ℕ) (p : ℕ) → p < 4096 → get_or (replicate 4096 0 ++ m) p 0 ≡ get_or (replicate 4096 0) p 0
first-page m p h = get_or-append (replicate 4096 0) m 0 p (subst (λ (n : ℕ). p < n) (sym (length-replicate {A = ℕ} 4096 0)) h)

-- whatever the first words of pages 1 and 2 are
pub compared : (v w v' w' : ℕ) → Compared (holding v w) (holding v' w')
unfolding key_of group_of reset_state with_ic with_sw
compared v w v' w' = record {
  alike = record { state = refl; pages = refl; ports = refl; size = refl };
  keyed = λ (e : ◌≡◌ {A = ℕ} 3 0). omega arith;
  seen = λ p s. let h : p < 4096 = seen-in-page-0 p s in first-page (beyond v w) p h ∙ sym (first-page (beyond v' w') p h);
}

-- they differ where those words do
pub locked-differ : holding 0 0 ≢ holding 1 0
locked-differ e = let z : ◌≡◌ {A = ℕ} 0 1 = ap (λ x. get_or x.memory 4096 0) e in absurd (omega arith)

pub unnamed-differ : holding 0 0 ≢ holding 0 1
unnamed-differ e = let z : ◌≡◌ {A = ℕ} 0 1 = ap (λ x. get_or x.memory 8192 0) e in absurd (omega arith)

-- and runs of them are not refused
pub accepted : T (eqb (number_of (answer_of (holding 0 0) (run_of 1000 hundreds))) 0 && eqb (number_of (answer_of (holding 1 1) (run_of 1000 hundreds))) 0)
unfolding machinery
accepted = tt
