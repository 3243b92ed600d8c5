-- A new case, its run on the words that it is lent, and its text. Assumes nothing.
use Rattle.std.proofs.Common.{◌≡◌, ℕ, ◌<◌, min, Bool, false, cond, eqb, List, ◌++◌, length, take, drop, replicate, sym, refl, ap, ◌∙◌, ap₂, Ok, Err, ne_eqb, lt_of_not-le, arith, drop_of_length-le, take_all}
use native.Mathlib.Decide.{dec_le}
use lib.Seq.{take-length, drop-length}
use Rattle.machine.specs.declared.State.{State}
use Rattle.machine.proofs.RunLaws.{number-refused}
use Rattle.machine.specs.Machine.{machine, Became}
use Rattle.machine.specs.Runs.{Answer, run_of, number_of, answer_of, steps_of, made, left}
use Rattle.machine.proofs.MachineLaws.{became-machine}
use Rattle.isa.specs.Mil1750.{mil1750}
use Rattle.reset.specs.Reset.{reset_machine}
use Rattle.test_case.specs.declared.case.Lengths.{Lengths}
use Rattle.test_case.specs.Case.{Case, lengths, case, fresh, lent, case_run, rejoined, ran, changes, state_lines, case_text}

-- after reset of lists of these sizes
module _ (m₀ g₀ o₀ : List ℕ) (memory : length m₀ ≡ 16384) (pages : length g₀ ≡ 512) (ports : length o₀ ≡ 1024) where
  pub fresh-is : {s : State} {m g o : List ℕ} → Became (reset_machine (length m₀) (length g₀) (length o₀)) s m g o
      → case (machine s m g o) (replicate 257 100) (lengths 16384 512 1024 257) false ≡ fresh
  unfolding fresh
  fresh-is b = ap (λ x. case x (replicate 257 100) (lengths 16384 512 1024 257) false) (became-machine b ∙ rw (memory, pages, ports) refl)

-- the first k words of a list, and the others, where k is the smaller of n and their number
module _ (n k : ℕ) (l : List ℕ) (least : k ≡ min n (length l)) where
  first-words : take k l ≡ take n l
  first-words = elim (dec_le n (length l)) [
    | yes h ↦ (let e : k ≡ n = omega arith in rw e refl)
    | no h ↦ (let g : length l < n = lt_of_not-le h in let e : k ≡ length l = omega arith in rw (e, take-length) (sym (take_all n l (omega arith))))
  ]

  other-words : drop k l ≡ drop n l
  other-words = elim (dec_le n (length l)) [
    | yes h ↦ (let e : k ≡ n = omega arith in rw e refl)
    | no h ↦ (let g : length l < n = lt_of_not-le h in let e : k ≡ length l = omega arith in rw (e, drop-length) (sym (drop_of_length-le l {i = n} (omega arith))))
  ]

-- a run that is lent so many words of each list
module _ (s : State) (m g o d : List ℕ) (l : Lengths) (t : Bool) (b i j k n : ℕ)
    (memory : i ≡ min l.memory (length m)) (pages : j ≡ min l.pages (length g)) (ports : k ≡ min l.ports (length o)) (durations : n ≡ min l.durations (length d)) where
  part-is : machine s (take i m) (take j g) (take k o) ≡ lent (case (machine s m g o) d l t)
  unfolding lent
  part-is = rw (first-words _ _ _ memory, first-words _ _ _ pages, first-words _ _ _ ports) refl

  run_is : run_of b (take n d) ≡ case_run (case (machine s m g o) d l t) b
  run_is = ap (run_of b) (first-words _ _ _ durations)

  pub answer-is : {a : Answer} → a ≡ answer_of (machine s (take i m) (take j g) (take k o)) (run_of b (take n d))
      → a ≡ answer_of (lent (case (machine s m g o) d l t)) (case_run (case (machine s m g o) d l t) b)
  answer-is e = e ∙ ap₂ answer_of part-is run_is

  pub ran-is : {s' : State} {m' g' o' : List ℕ} → Became (left mil1750 (machine s (take i m) (take j g) (take k o)) (run_of b (take n d))) s' m' g' o'
      → Became (ran (case (machine s m g o) d l t) b) s' (m' ++ drop i m) (g' ++ drop j g) (o' ++ drop k o)
  unfolding ran rejoined
  ran-is h =
      let y = ap₂ (left mil1750) part-is run_is in
      record {
        state-is = h.state-is ∙ ap (λ z. z.state) y;
        memory-is = rw (h.memory-is, other-words _ _ _ memory) (ap (λ z. z.memory ++ drop l.memory m) y);
        pages-is = rw (h.pages-is, other-words _ _ _ pages) (ap (λ z. z.pages ++ drop l.pages g) y);
        ports-is = rw (h.ports-is, other-words _ _ _ ports) (ap (λ z. z.ports ++ drop l.ports o) y);
      }

-- the steps that a run makes, by the number of its answer
steps-number : (a : Answer) (b : ℕ) → cond (eqb (number_of a) 0) b 0 ≡ steps_of a b
unfolding number_of steps_of
steps-number (Ok u) b = refl
steps-number (Err e) b = rw (ne_eqb _ _ (number-refused e)) refl

-- the text of a case, from the parts of what its run hands back and leaves
pub text-is : (n b : ℕ) (c : Case) {a : Answer} {k j : ℕ} {s : State} {m g o : List ℕ} → a ≡ answer_of (lent c) (case_run c b) → k ≡ number_of a → j ≡ cond (eqb k 0) b 0
    → Became (ran c b) s m g o
    → state_lines n k j c.timed s ++ (changes 77 c.before.memory m ++ (changes 80 c.before.pages g ++ changes 79 c.before.ports o)) ≡ case_text n b c
unfolding case_text made
text-is n b c e f h w = rw (h, f, steps-number, e, w.state-is, w.memory-is, w.pages-is, w.ports-is) refl
