-- The parts of what an operation needs, and the words that an operation not on blocks reads and writes by them. Assumes nothing.
use Prim.Native.Nat.{ℕ, ◌+◌, ◌/◌, ◌%◌, ◌<◌}
use mathlib.Core.Path.{◌≡◌, refl, sym, ap, ◌∙◌}
use mathlib.Core.Bool.{Bool, true, false, not, cond, ◌&&◌, ◌||◌, false≢true}
use mathlib.Core.List.{List}
use native.Mathlib.Omega.{arith}
use lib.Dec.{eqb}
use borrow.Author.Tests.{eq-eqb, eqb-true, eqb-false}
use Rattle.choice.proofs.TestLaws.{both, either, passes}
use Rattle.page.specs.declared.Span.{Span}
use Rattle.page.specs.Spans.{wrapped}
use Rattle.decode.specs.Forms.{mode_of, operation_of}
use Rattle.machine.specs.declared.Instruction.{Instruction}
use Rattle.machine.specs.Machine.{span_from}
use Rattle.isa.specs.Fields.{field_a, register}
use Rattle.isa.specs.Addressing.{in_memory}
use Rattle.isa.specs.Accesses.{words_read, words_written, at_operand, reads_of, writes_of}
use Rattle.form_table.specs.FormNumbers.{exceptions, path_of, need_of}

-- the counts, and the two words at a register, computed at every operation
abbrev parted : ℕ → Bool
parted k =
    (eqb (need_of k % 4) (words_read k) && eqb (need_of k / 4 % 4) (words_written k))
    && (eqb (need_of k / 16 % 2) (cond (eqb k 37) 1 0) && eqb (need_of k / 32 % 2) (cond (eqb k 36) 1 0))

all-parted : (k : ℕ) → k < 256 → parted k ≡ true
unfolding need_of exceptions path_of words_read words_written
all-parted k h = passes parted 256 refl k h

parts : (k : ℕ) → k < 256
    → (need_of k % 4 ≡ words_read k) × (need_of k / 4 % 4 ≡ words_written k) × (need_of k / 16 % 2 ≡ cond (eqb k 37) 1 0) × (need_of k / 32 % 2 ≡ cond (eqb k 36) 1 0)
parts k h =
    let p = both _ _ (all-parted k h) in
    let q = both _ _ p.0 in
    let r = both _ _ p.1 in
    (eqb-true _ _ q.0, eqb-true _ _ q.1, eqb-true _ _ r.0, eqb-true _ _ r.1)

-- a number that is 1 or 0 by a test tells the test
pub told : (b : Bool) (m : ℕ) → m ≡ cond b 1 0 → m ≡ 1 → b ≡ true
told true m e h = refl
told false m e h = absurd (omega arith)

pub untold : (b : Bool) (m : ℕ) → m ≡ cond b 1 0 → (m ≡ 1 → ⊥) → b ≡ false
untold true m e h = absurd (h e)
untold false m e h = refl

-- URS and SJS by their marks
module _ (form : ℕ) where
  pub reading-told : eqb (operation_of form) 37 ≡ true → need_of (operation_of form) / 16 % 2 ≡ 1
  reading-told t = (parts (operation_of form) (omega arith)).2 ∙ ap (λ (b : Bool). cond b 1 0) t

  pub reading-untold : eqb (operation_of form) 37 ≡ false → need_of (operation_of form) / 16 % 2 ≡ 1 → ⊥
  reading-untold t i = let z = (parts (operation_of form) (omega arith)).2 ∙ ap (λ (b : Bool). cond b 1 0) t in omega (arith, z, i)

  pub writing-told : eqb (operation_of form) 36 ≡ true → need_of (operation_of form) / 32 % 2 ≡ 1
  writing-told t = (parts (operation_of form) (omega arith)).3 ∙ ap (λ (b : Bool). cond b 1 0) t

  pub writing-untold : eqb (operation_of form) 36 ≡ false → need_of (operation_of form) / 32 % 2 ≡ 1 → ⊥
  writing-untold t i = let z = (parts (operation_of form) (omega arith)).3 ∙ ap (λ (b : Bool). cond b 1 0) t in omega (arith, z, i)

  pub reading-known : need_of (operation_of form) / 16 % 2 ≡ 1 → eqb (operation_of form) 37 ≡ true
  reading-known i = told _ _ (parts (operation_of form) (omega arith)).2 i

  pub reading-other : (need_of (operation_of form) / 16 % 2 ≡ 1 → ⊥) → eqb (operation_of form) 37 ≡ false
  reading-other i = untold _ _ (parts (operation_of form) (omega arith)).2 i

  pub writing-known : need_of (operation_of form) / 32 % 2 ≡ 1 → eqb (operation_of form) 36 ≡ true
  writing-known i = told _ _ (parts (operation_of form) (omega arith)).3 i

  pub writing-other : (need_of (operation_of form) / 32 % 2 ≡ 1 → ⊥) → eqb (operation_of form) 36 ≡ false
  writing-other i = untold _ _ (parts (operation_of form) (omega arith)).3 i

-- an operation without the weight of blocks is not j, which has it
apart : (k j : ℕ) → need_of k / 64 % 2 ≡ 0 → need_of j / 64 % 2 ≡ 1 → eqb k j ≡ false
apart k j h i = by (eqb k j) refl
  where
    by : (b : Bool) → eqb k j ≡ b → eqb k j ≡ false
    by true e = let d : need_of k ≡ need_of j = ap need_of (eqb-true k j e) in absurd (omega (arith, d, h, i))
    by false e = e

others : (k : ℕ) → need_of k / 64 % 2 ≡ 0
    → (eqb k 40 ≡ false) × (eqb k 44 ≡ false) × (eqb k 47 ≡ false) × (eqb k 50 ≡ false) × (eqb k 54 ≡ false)
unfolding need_of exceptions path_of words_read words_written
others k h = (apart k 40 h refl, apart k 44 h refl, apart k 47 h refl, apart k 50 h refl, apart k 54 h refl)

-- those on blocks need no word at their derived address
blocks-told : (k : ℕ) → k < 256 → not (eqb (need_of k / 64 % 2) 1) || eqb (need_of k) 64 ≡ true
unfolding need_of exceptions path_of words_read words_written
blocks-told k h = passes (λ (j : ℕ). not (eqb (need_of j / 64 % 2) 1) || eqb (need_of j) 64) 256 refl k h

block-need : (k : ℕ) → k < 256 → need_of k / 64 % 2 ≡ 1 → need_of k ≡ 64
block-need k h e = either _ _ (λ u. absurd (false≢true (ap not (sym (eq-eqb _ _ e)) ∙ u))) (λ u. eqb-true _ _ u) (blocks-told k h)

no_words : (a : ℕ) (b : Bool) (k : ℕ) → k ≡ 0 → span_from a (cond b k 0) ≡ span_from a 0
no_words a true k e = ap (span_from a) e
no_words a false k e = refl

-- the operation of n is on blocks, and none of those that read, or that write
module _ (regs : List ℕ) (n : Instruction) (h : need_of (operation_of n.form) / 64 % 2 ≡ 1) where
  pub block-reads-none : eqb (operation_of n.form) 40 ≡ false → eqb (operation_of n.form) 44 ≡ false → eqb (operation_of n.form) 47 ≡ false
      → span_from n.address 0 ≡ reads_of regs n
  unfolding reads_of at_operand
  block-reads-none i j l =
      let e = block-need (operation_of n.form) (omega arith) h in
      let p = parts (operation_of n.form) (omega arith) in
      rw (untold (eqb (operation_of n.form) 37) (need_of (operation_of n.form) / 16 % 2) p.2 (λ z. omega (arith, z, e)), i, j, l)
      (sym (no_words n.address (in_memory (mode_of n.form)) _ (sym p.0 ∙ ap (λ (m : ℕ). m % 4) e)))

  pub block-writes-none : eqb (operation_of n.form) 47 ≡ false → eqb (operation_of n.form) 50 ≡ false → eqb (operation_of n.form) 54 ≡ false
      → span_from n.address 0 ≡ writes_of regs n
  unfolding writes_of at_operand
  block-writes-none i j l =
      let e = block-need (operation_of n.form) (omega arith) h in
      let p = parts (operation_of n.form) (omega arith) in
      rw (untold (eqb (operation_of n.form) 36) (need_of (operation_of n.form) / 32 % 2) p.3 (λ z. omega (arith, z, e)), i, j, l)
      (sym (no_words n.address (in_memory (mode_of n.form)) _ (sym p.1 ∙ ap (λ (m : ℕ). m / 4 % 4) e)))

-- a span upwards, by its start and its count
spanned : (s : Span) (a k start count : ℕ) → s ≡ span_from a k → start ≡ s.start → count ≡ s.count → span_from start count ≡ s
spanned s a k start count e i j = rw (i, j, e) refl

-- one that is a word at a where the mark is 1, else k words at b
marked : (s : Span) (mark a b k : ℕ) → (mark ≡ 1 → s ≡ span_from a 1) → ((mark ≡ 1 → ⊥) → s ≡ span_from b k)
    → (start count : ℕ) → start ≡ s.start → count ≡ s.count → span_from start count ≡ s
marked s mark a b k one other start count i j = by (eqb mark 1) refl
  where
    by : (t : Bool) → eqb mark 1 ≡ t → span_from start count ≡ s
    by true t = spanned s a 1 start count (one (eqb-true _ _ t)) i j
    by false t = spanned s b k start count (other (eqb-false _ _ t)) i j

-- the operation of n is not on blocks
module _ (regs : List ℕ) (n : Instruction) (need : ℕ) (e : need ≡ need_of (operation_of n.form)) (plain : need / 64 % 2 ≡ 0) where
  no_block : (eqb (operation_of n.form) 40 ≡ false) × (eqb (operation_of n.form) 44 ≡ false) × (eqb (operation_of n.form) 47 ≡ false)
      × (eqb (operation_of n.form) 50 ≡ false) × (eqb (operation_of n.form) 54 ≡ false)
  no_block = others (operation_of n.form) (rw (← e) plain)

  -- one word read at a register
  pub register-read : need / 16 % 2 ≡ 1 → reads_of regs n ≡ span_from (register regs (field_a n.first)) 1
  unfolding reads_of
  register-read h =
      let p = parts (operation_of n.form) (omega arith) in
      rw (told (eqb (operation_of n.form) 37) (need / 16 % 2) (ap (λ (m : ℕ). m / 16 % 2) e ∙ p.2) h) refl

  -- the words read at the derived address
  pub operand_read : (need / 16 % 2 ≡ 1 → ⊥) → reads_of regs n ≡ span_from n.address (cond (in_memory (mode_of n.form)) (need % 4) 0)
  unfolding reads_of at_operand
  operand_read h =
      let p = parts (operation_of n.form) (omega arith) in
      rw (untold (eqb (operation_of n.form) 37) (need / 16 % 2) (ap (λ (m : ℕ). m / 16 % 2) e ∙ p.2) h, no_block.0, no_block.1, no_block.2, ← p.0, ← e) refl

  -- one word written below a register
  pub register-written : need / 32 % 2 ≡ 1 → writes_of regs n ≡ span_from (wrapped (register regs (field_a n.first) + 65535)) 1
  unfolding writes_of
  register-written h =
      let p = parts (operation_of n.form) (omega arith) in
      rw (told (eqb (operation_of n.form) 36) (need / 32 % 2) (ap (λ (m : ℕ). m / 32 % 2) e ∙ p.3) h) refl

  -- the words written at the derived address
  pub operand-written : (need / 32 % 2 ≡ 1 → ⊥) → writes_of regs n ≡ span_from n.address (cond (in_memory (mode_of n.form)) (need / 4 % 4) 0)
  unfolding writes_of at_operand
  operand-written h =
      let p = parts (operation_of n.form) (omega arith) in
      rw (untold (eqb (operation_of n.form) 36) (need / 32 % 2) (ap (λ (m : ℕ). m / 32 % 2) e ∙ p.3) h, no_block.2, no_block.3, no_block.4, ← p.1, ← e) refl

  -- by their start and their count
  pub reads-span : (start count : ℕ) → start ≡ (reads_of regs n).start → count ≡ (reads_of regs n).count → span_from start count ≡ reads_of regs n
  reads-span = marked (reads_of regs n) (need / 16 % 2) _ _ _ register-read operand_read

  pub writes-span : (start count : ℕ) → start ≡ (writes_of regs n).start → count ≡ (writes_of regs n).count → span_from start count ≡ writes_of regs n
  writes-span = marked (writes_of regs n) (need / 32 % 2) _ _ _ register-written operand-written
