-- One instruction: what the verdict on its accesses leads to, and a fault. Assumes nothing.
use Rattle.std.proofs.Common.{Result, Ok, Err}
use Prim.Native.Nat.{ℕ, ◌+◌}
use mathlib.Core.Path.{◌≡◌, refl, sym, ap, ◌∙◌}
use mathlib.Core.Bool.{true, false}
use mathlib.Core.List.{List}
use lib.ListN.{length}
use Rattle.page.specs.declared.Refusal.{Refusal}
use Rattle.page.specs.declared.Access.TheVariants.{Read, Write}
use Rattle.page.specs.declared.Span.{Span}
use Rattle.page.specs.Spans.{wrapped, checked, words_of}
use Rattle.decode.specs.Forms.{length_of, operation_of}
use Rattle.machine.specs.declared.State.{State}
use Rattle.machine.specs.declared.Core.{Core}
use Rattle.machine.specs.declared.Instruction.{Instruction}
use Rattle.machine.specs.State.{key_of, group_of, with_core}
use Rattle.machine.specs.Machine.{Became, next_of, span_from}
use Rattle.machine.specs.Instructions.{fail, view, both, operated, accessed, carried}
use Rattle.machine.specs.Step.{faulted, perform}
use Rattle.isa.specs.Accesses.{reads_of, writes_of}
use Rattle.isa.specs.Mil1750.{class_of, mil1750}
use Rattle.operand_words.specs.declared.Words.{Words}
use Rattle.operand_words.specs.Gathers.{FirstThree, gathered}
use Rattle.operand_words.proofs.GatherLaws.{all-gathered, denied-gathered}

-- ---- the verdict on the accesses of a ready instruction

-- v is the verdict that the code came to, on the spans that it reads from and writes to
module _ (s : State) (m g o : List ℕ) (n : Instruction) (from to : Span) (v : Result (Unit {0}) Refusal)
    (i : from ≡ reads_of s.regs n) (j : to ≡ writes_of s.regs n)
    (k : v ≡ both (checked (key_of s.core.sw) (group_of s.core.sw) g (length m) from Read) (checked (key_of s.core.sw) (group_of s.core.sw) g (length m) to Write)) where
  agreed : (c : Result (Unit {0}) Refusal) → v ≡ c
      → both (checked (key_of s.core.sw) (group_of s.core.sw) g (length m) (reads_of s.regs n) Read) (checked (key_of s.core.sw) (group_of s.core.sw) g (length m) (writes_of s.regs n) Write) ≡ c
  agreed c h = rw (← i, ← j) (sym k ∙ h)

  pub carried-clear : v ≡ Ok tt
      → operated mil1750 s g o (class_of (operation_of n.form)) n (words_of (key_of s.core.sw) (group_of s.core.sw) g (length m) (reads_of s.regs n) m)
      ≡ carried mil1750 s g o (view s.core m g) (Ok n)
  unfolding carried accessed mil1750
  carried-clear h = rw (agreed (Ok tt) h) refl

  pub carried-fault : (b : Refusal) → v ≡ Err b → fail b (wrapped (n.ic + length_of n.form)) ≡ carried mil1750 s g o (view s.core m g) (Ok n)
  unfolding carried accessed mil1750 next_of
  carried-fault b h = rw (agreed (Err b) h) refl

-- ---- at most three words, gathered

-- v is what the code gathered from the span, by the key and the group of the state
module _ (s : State) (m g : List ℕ) (n : Instruction) (key group : ℕ) (d : key ≡ key_of s.core.sw) (e : group ≡ group_of s.core.sw) (from count : ℕ) (v : Result Words Refusal)
    (i : span_from from count ≡ reads_of s.regs n)
    (k : v ≡ gathered (checked key group g (length m) (span_from from count) Read) (words_of key group g (length m) (span_from from count) m)) where
  gathers : v
      ≡ gathered (checked (key_of s.core.sw) (group_of s.core.sw) g (length m) (reads_of s.regs n) Read)
      (words_of (key_of s.core.sw) (group_of s.core.sw) g (length m) (reads_of s.regs n) m)
  gathers =
      rw (← d, ← e) (k ∙ ap (λ p. gathered (checked key group g (length m) p Read) (words_of key group g (length m) p m)) i)

  pub words-read : (y : Words) → v ≡ Ok y → FirstThree (words_of (key_of s.core.sw) (group_of s.core.sw) g (length m) (reads_of s.regs n) m) y.x y.y y.z
  words-read y h = (all-gathered _ _ y (sym gathers ∙ h)).1

  pub carried-read : (o : List ℕ) (y : Words) → v ≡ Ok y
      → accessed mil1750 s g o (view s.core m g) n (checked (key_of s.core.sw) (group_of s.core.sw) g (length m) (writes_of s.regs n) Write)
      ≡ carried mil1750 s g o (view s.core m g) (Ok n)
  unfolding carried both mil1750
  carried-read o y h = rw (all-gathered _ _ y (sym gathers ∙ h)).0 refl

  pub carried-denied : (o : List ℕ) (b : Refusal) → v ≡ Err b
      → fail b (wrapped (n.ic + length_of n.form)) ≡ carried mil1750 s g o (view s.core m g) (Ok n)
  unfolding carried both accessed mil1750 next_of
  carried-denied o b h = rw (denied-gathered _ _ b (sym gathers ∙ h)) refl

-- v is the verdict that the code came to on the stores, which go to a span
module _ (s : State) (m g o : List ℕ) (n : Instruction) (key group : ℕ) (to : Span) (v : Result (Unit {0}) Refusal)
    (d : key ≡ key_of s.core.sw) (e : group ≡ group_of s.core.sw) (j : to ≡ writes_of s.regs n) (k : v ≡ checked key group g (length m) to Write) where
  on-stores : (c : Result (Unit {0}) Refusal) → v ≡ c → checked (key_of s.core.sw) (group_of s.core.sw) g (length m) (writes_of s.regs n) Write ≡ c
  on-stores c h = rw (← d, ← e, ← j) (sym k ∙ h)

  pub accessed-clear : v ≡ Ok tt
      → operated mil1750 s g o (class_of (operation_of n.form)) n (words_of (key_of s.core.sw) (group_of s.core.sw) g (length m) (reads_of s.regs n) m)
      ≡ accessed mil1750 s g o (view s.core m g) n (checked (key_of s.core.sw) (group_of s.core.sw) g (length m) (writes_of s.regs n) Write)
  unfolding accessed mil1750
  accessed-clear h = rw (on-stores (Ok tt) h) refl

  pub accessed-fault : (b : Refusal) → v ≡ Err b
      → fail b (wrapped (n.ic + length_of n.form))
      ≡ accessed mil1750 s g o (view s.core m g) n (checked (key_of s.core.sw) (group_of s.core.sw) g (length m) (writes_of s.regs n) Write)
  unfolding accessed next_of mil1750
  accessed-fault b h = rw (on-stores (Err b) h) refl

-- ---- a fault

pub failed : (s : State) (d : Core) (m m' g o : List ℕ) (b : Refusal) (a : ℕ) → m' ≡ m → d ≡ faulted s.core b a → Became (perform s m g o (fail b a)) (with_core s d) m' g o
unfolding perform
failed s d m m' g o b a e f = record { state-is = ap (with_core s) f; memory-is = e; pages-is = refl; ports-is = refl }
