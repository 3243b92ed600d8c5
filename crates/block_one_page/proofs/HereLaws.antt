-- The operations on blocks whose words were all found: their accesses are open, and what they leave. Assumes nothing.
use Rattle.std.proofs.Common.{Result, Ok, Err}
use Prim.Native.Nat.{ℕ, zero, suc, ◌+◌, ◌-◌, ◌%◌, ◌≤◌, ◌<◌}
use Rattle.page.specs.declared.Refusal.{Refusal}
use mathlib.Core.Path.{◌≡◌, refl, sym, ap, ◌∙◌}
use mathlib.Core.Bool.{Bool, true, false, cond}
use mathlib.Core.List.{List, [], ◌∷◌, ◌++◌, append_assoc}
use native.Mathlib.Omega.{arith}
use native.Mathlib.Numerals.{add-one}
use native.Mathlib.Nat.{add-suc, suc-add, add-zero, zero-add}
use lib.Dec.{eqb, ltb}
use borrow.Author.Tests.{eqb-false, ltb-false}
use lib.ListN.{get_or, set, take, drop, length, length-drop}
use lib.Seq.{drop-drop, sets, sets-eq, drop-cons, length-take-le, get_or-take, get_or-drop, ext_get_or}
use Rattle.page.specs.declared.Span.{Span}
use Rattle.page.specs.declared.Access.{Access}
use Rattle.page.specs.declared.Access.TheVariants.{Read, Write}
use Rattle.page.specs.Pages.{lookup}
use Rattle.page.specs.Spans.{wrapped, got_at, word_of, put_at, and_then, passed, checked_from, checked, read_from, words_of, written_from, written}
use Rattle.page.proofs.SpanLaws.{taken}
use Rattle.page.proofs.EachLaws.{along, words-length}
use Rattle.page.proofs.NearLaws.{Found, found_inside, found-clear, words-at, found_up, found-down}
use Rattle.decode.specs.Forms.{mode_of, operation_of}
use Rattle.machine.specs.declared.Instruction.{Instruction}
use Rattle.machine.specs.State.{Processor, key_of, group_of}
use Rattle.machine.specs.Machine.{Effect, span_from}
use Rattle.machine.specs.Instructions.{both}
use Rattle.machine.specs.Step.{affected, stored}
use Rattle.isa.specs.Fields.{field_a, field_b, register, with_register, registers_from}
use Rattle.isa.specs.Addressing.{in_memory}
use Rattle.isa.specs.Accesses.{words_read, words_written, at_operand, all_from, popped_span, pushed_span, moved_span, reads_of, writes_of}
use Rattle.isa.specs.Blocks.{rearranged, loaded_all, popped_from, popped_all, moved_word, stored_all, pushed_from, pushed_all}
use Rattle.isa.specs.Mil1750.{context_of}
use Rattle.isa.specs.Execute.{executed}
use Rattle.block_registers.specs.Operation.{Finished}
use Rattle.std.specs.Prelude.{Option, Some, None}
use Rattle.block_one_page.specs.Extents.{fitting, extent_of, stored_at}
use Rattle.block_registers.proofs.BlockLaws.{none-chosen, operand-unwritten}

-- the places from p on, by their numbers
abbrev pub upwards : ℕ → ℕ → ℕ
upwards p j = p + j

abbrev pub downwards : ℕ → ℕ → ℕ
downwards p j = p - j

-- ---- an operation whose accesses are open and whose effect is e

module _ (s : Processor) (m g : List ℕ) (n : Instruction) (from to : Span) (i : reads_of s.regs n ≡ from) (j : writes_of s.regs n ≡ to) where
  finished : checked (key_of s.core.sw) (group_of s.core.sw) g (length m) from Read ≡ Ok tt → checked (key_of s.core.sw) (group_of s.core.sw) g (length m) to Write ≡ Ok tt
      → (e : Effect) → executed (context_of s) n (words_of (key_of s.core.sw) (group_of s.core.sw) g (length m) from m) ≡ e
      → (t : Processor) (w : List ℕ) → t ≡ affected s e → w ≡ written (key_of s.core.sw) (group_of s.core.sw) g (length m) to e.words m → Finished s m g n t w
  unfolding both stored
  finished a b e x t w h k = record {
    admitted = rw (i, j, a) b;
    worked = record { processor-is = rw (i, x) h; memory-is = rw (i, j, x) k };
  }

-- ---- one word, which was found

module _ (key group : ℕ) (g : List ℕ) (size a q : ℕ) where
  one-open : (k : Access) → lookup k key group g size a ≡ Ok q → checked key group g size (span_from a 1) k ≡ Ok tt
  unfolding checked checked_from passed and_then
  one-open k e = rw e refl

  one-read : (m : List ℕ) → lookup Read key group g size a ≡ Ok q → get_or (words_of key group g size (span_from a 1) m) 0 0 ≡ get_or m q 0
  unfolding words_of read_from passed got_at word_of
  one-read m e = rw e refl

  one_written : (x : ℕ) (m : List ℕ) → lookup Write key group g size a ≡ Ok q → written key group g size (span_from a 1) (x ∷ []) m ≡ set m q x
  unfolding written written_from passed put_at
  one_written x m e = rw e refl

-- ---- MOV, with a count that is not zero

module _ (s : Processor) (m g : List ℕ) (n : Instruction) (o : operation_of n.form ≡ 47) (c : eqb (register s.regs (field_a n.first + 1)) 0 ≡ false) where
  moves_from : reads_of s.regs n ≡ span_from (register s.regs (field_b n.first)) 1
  unfolding reads_of moved_span
  moves_from = rw (o, c) refl

  moves-to : writes_of s.regs n ≡ span_from (register s.regs (field_a n.first)) 1
  unfolding writes_of moved_span
  moves-to = rw (o, c) refl

  moves : (ws : List ℕ) → executed (context_of s) n ws ≡ moved_word (context_of s) n (get_or ws 0 0) false
  unfolding executed context_of
  moves ws = rw (o, c) refl

  pub moved_here : (p q : ℕ) → lookup Read (key_of s.core.sw) (group_of s.core.sw) g (length m) (register s.regs (field_b n.first)) ≡ Ok p
      → lookup Write (key_of s.core.sw) (group_of s.core.sw) g (length m) (register s.regs (field_a n.first)) ≡ Ok q
      → (t : Processor) (w : List ℕ) → t ≡ affected s (moved_word (context_of s) n (get_or m p 0) (eqb (register s.regs (field_a n.first + 1)) 0)) → w ≡ set m q (get_or m p 0)
      → Finished s m g n t w
  unfolding moved_word rearranged
  moved_here p q e f t w h i =
      finished s m g n _ _ moves_from moves-to (one-open _ _ _ _ _ p Read e) (one-open _ _ _ _ _ q Write f)
      (moved_word (context_of s) n (get_or m p 0) false) (moves _ ∙ ap (λ x. moved_word (context_of s) n x false) (one-read _ _ _ _ _ p m e))
      t w (rw c at h) (i ∙ sym (one_written _ _ _ _ _ q _ m f))

-- ---- two lists that agree on the first k words

taken-alike : (k : ℕ) (xs ys : List ℕ) → k ≤ length xs → k ≤ length ys → ((j : ℕ) → j < k → get_or xs j 0 ≡ get_or ys j 0) → take k xs ≡ take k ys
taken-alike k xs ys u v h =
    let d = length-take-le k xs u in
    let e = length-take-le k ys v in
    ext_get_or 0 _ _ (d ∙ sym e) (λ i l. let b : i < k = omega (arith, d) in get_or-take k xs i 0 b ∙ h i b ∙ sym (get_or-take k ys i 0 b))

-- and on all but the one that is passed over
popped-alike : (a : ℕ) (xs ys : List ℕ) (k i : ℕ) (regs : List ℕ) → ((j : ℕ) → j < i + k → ((a + j) % 16 ≡ 15 → ⊥) → get_or xs j 0 ≡ get_or ys j 0)
    → popped_from a xs k i regs ≡ popped_from a ys k i regs
unfolding popped_from
popped-alike a xs ys zero i regs h = refl
popped-alike a xs ys (suc k) i regs h = by (eqb ((a + i) % 16) 15) refl ∙ popped-alike a xs ys k (suc i) _ (λ j l. h j (omega arith))
  where
    by : (b : Bool) → eqb ((a + i) % 16) 15 ≡ b
        → popped_from a xs k (suc i) (cond (eqb ((a + i) % 16) 15) regs (with_register regs (a + i) (get_or xs i 0)))
        ≡ popped_from a xs k (suc i) (cond (eqb ((a + i) % 16) 15) regs (with_register regs (a + i) (get_or ys i 0)))
    by true e = rw e refl
    by false e = rw (e, h i (omega arith) (eqb-false _ _ e)) refl

-- ---- words that follow one another, stored as a whole

stored-sets : (p : ℕ) (buf : List ℕ) (n i : ℕ) (m : List ℕ) → i + n ≤ length buf → stored_at (upwards p) buf n i m ≡ sets m (p + i) (take n (drop i buf))
unfolding stored_at
stored-sets p buf zero i m h = refl
stored-sets p buf (suc n) i m h =
    let rest = rw add-suc at (stored-sets p buf n (suc i) (set m (p + i) (get_or buf i 0)) (omega arith)) in
    rw (drop-cons buf i 0 (omega arith)) rest

pub stored-copied : (p : ℕ) (buf : List ℕ) (n : ℕ) (m : List ℕ) → n ≤ length buf → p + n ≤ length m → take p m ++ (take n buf ++ drop n (drop p m)) ≡ stored_at (upwards p) buf n 0 m
stored-copied p buf n m h l =
    let k : length (take n buf) ≡ n = length-take-le n buf h in
    let e : sets m p (take n buf) ≡ (take p m ++ take n buf) ++ drop (p + n) m = rw k at (sets-eq (take n buf) m p (omega (arith, k))) in
    let w : stored_at (upwards p) buf n 0 m ≡ sets m p (take n buf) = rw add-zero at (stored-sets p buf n 0 m (omega (arith, h))) in
    rw (w, e, append_assoc, drop-drop) refl

-- ---- words stored where they were found

module _ (key group : ℕ) (g : List ℕ) (size : ℕ) (p : Span) (buf : List ℕ) (f : ℕ → ℕ) where
  stored-from : (n i a : ℕ) (m : List ℕ) → ((j : ℕ) → j < n → lookup Write key group g size (along p a j) ≡ Ok (f (i + j))) → i + n ≤ p.hole
      → written_from key group g size p buf n i a m ≡ stored_at f buf n i m
  unfolding written_from stored_at put_at
  stored-from zero i a m h l = refl
  stored-from (suc n) i a m h l =
      let e : lookup Write key group g size a ≡ Ok (f i) = rw add-zero at (h 0 (omega arith)) in
      ap (written_from key group g size p buf n (suc i) (wrapped (a + p.stride))) (sym (taken p i m _ _ (λ (y : i ≡ p.hole). omega arith) (ap (λ q. put_at m q (get_or buf i 0)) (sym e))))
      ∙ stored-from n (suc i) (wrapped (a + p.stride)) _ (λ j b. rw (add-suc, ← suc-add) at (h (suc j) (omega arith))) (omega arith)

  stored-found : Found key group g size p Write f → p.count ≤ p.hole → (m : List ℕ) → written key group g size p buf m ≡ stored_at f buf p.count 0 m
  unfolding written
  stored-found h l m = stored-from p.count 0 p.start m (λ j b. rw zero-add (h j b (λ (y : j ≡ p.hole). omega arith))) (omega arith)

-- ---- a loop of such stores, step by step: n words are left, the first has the number i

pub stored-step : (f : ℕ → ℕ) (buf : List ℕ) (n k i : ℕ) (m : List ℕ) → n ≡ k + 1 → (v : ℕ) → v ≡ get_or buf i 0 → stored_at f buf n i m ≡ stored_at f buf k (i + 1) (set m (f i) v)
unfolding stored_at
stored-step f buf n k i m h v e =
    let d : n ≡ suc k = omega arith in
    rw (d, e, add-one) refl

-- ---- no words at the derived address

module _ (key group : ℕ) (g : List ℕ) (size : ℕ) (n : Instruction) where
  none_open : (k : Access) → checked key group g size (at_operand n 0) k ≡ Ok tt
  unfolding at_operand
  none_open k = let e = none-chosen (in_memory (mode_of n.form)) in found-clear key group g size _ k (λ j. j) (λ j l h. absurd (omega (arith, e)))

-- ---- an extent that was found

-- what holds of its first word, if there is one
abbrev OnExtent : (ℕ → Type 0) → Option ℕ → Type 0
OnExtent P (Some p) = P p
OnExtent P None = Unit {0}

-- p is the place of the first of count words from the logical address a on, which are all of one page and inside the memory
abbrev pub ExtentAt : Access → ℕ → ℕ → List ℕ → ℕ → ℕ → ℕ → ℕ → Type 0
ExtentAt k key group g size a count p = (lookup k key group g size a ≡ Ok p) × (a % 4096 + count ≤ 4096) × (p + count ≤ size)

module _ (k : Access) (key group : ℕ) (g : List ℕ) (size a count : ℕ) where
  extent-fits : a % 4096 + count ≤ 4096 → (q : Result ℕ Refusal) → lookup k key group g size a ≡ q → OnExtent (ExtentAt k key group g size a count) (fitting size count q)
  unfolding fitting
  extent-fits l (Ok p) e = by (ltb (size - p) count) refl
    where
      by : (b : Bool) → ltb (size - p) count ≡ b → OnExtent (ExtentAt k key group g size a count) (cond b None (Some p))
      by true h = tt
      by false h = (e, l, omega (arith, ltb-false (size - p) count h, found_inside k key group g size a p e))
  extent-fits l (Err b) e = tt

  extent-placed : OnExtent (ExtentAt k key group g size a count) (extent_of k key group g size a count)
  unfolding extent_of
  extent-placed = by (ltb 4096 (a % 4096 + count)) refl
    where
      by : (b : Bool) → ltb 4096 (a % 4096 + count) ≡ b → OnExtent (ExtentAt k key group g size a count) (cond b None (fitting size count (lookup k key group g size a)))
      by true h = tt
      by false h = extent-fits (ltb-false 4096 (a % 4096 + count) h) _ refl

  pub extent-found : (q : Option ℕ) (p : ℕ) → q ≡ extent_of k key group g size a count → q ≡ Some p → ExtentAt k key group g size a count p
  extent-found q p e f = rw (← e, f) at extent-placed

field-few : (w : ℕ) → field_a w + 1 ≤ 16
unfolding field_a
field-few w = omega arith

registers-few : (a b : ℕ) → registers_from a b ≤ 16
unfolding registers_from
registers-few a b = omega arith

module _ (s : Processor) (m g : List ℕ) (n : Instruction) where
  -- ---- LM

  pub loaded-here : operation_of n.form ≡ 40 → (p : ℕ) → ExtentAt Read (key_of s.core.sw) (group_of s.core.sw) g (length m) n.address (field_a n.first + 1) p
      → (t : Processor) (w : List ℕ) → t ≡ affected s (loaded_all (context_of s) n (drop p m)) → w ≡ m → Finished s m g n t w
  unfolding reads_of writes_of all_from words_written executed loaded_all rearranged
  loaded-here o p r t w h i =
      let from = span_from n.address (field_a n.first + 1) in
      let f : Found (key_of s.core.sw) (group_of s.core.sw) g (length m) from Read (upwards p) = found_up _ _ _ _ from Read p r.0 refl r.1 r.2 in
      let ws = words_of (key_of s.core.sw) (group_of s.core.sw) g (length m) from m in
      let few = field-few n.first in
      let alike : take (field_a n.first + 1) ws ≡ take (field_a n.first + 1) (drop p m) =
      taken-alike (field_a n.first + 1) ws (drop p m) (omega (arith, few, words-length (key_of s.core.sw) (group_of s.core.sw) g (length m) from m)) (omega (arith, length-drop p m))
      (λ j l. words-at _ _ _ _ from m (upwards p) f few j l (λ (y : j ≡ 16). omega arith) ∙ sym (get_or-drop p m j 0)) in
      finished s m g n from (at_operand n 0) (rw o refl) (rw o refl) (found-clear _ _ _ _ from Read (upwards p) f) (none_open _ _ _ _ n Write)
      (loaded_all (context_of s) n (drop p m)) (rw (o, alike) refl) t w h (i ∙ operand-unwritten _ _ _ _ n _ m)

  -- ---- POPM

  pub popped-here : operation_of n.form ≡ 44 → (p : ℕ) → ExtentAt Read (key_of s.core.sw) (group_of s.core.sw) g (length m) (register s.regs 15) (registers_from (field_a n.first) (field_b n.first)) p
      → (t : Processor) (w : List ℕ) → t ≡ affected s (popped_all (context_of s) n (drop p m)) → w ≡ m → Finished s m g n t w
  unfolding reads_of writes_of popped_span words_written executed popped_all rearranged context_of
  popped-here o p r t w h i =
      let a = field_a n.first in
      let k = registers_from a (field_b n.first) in
      let from = popped_span s.regs n in
      let f : Found (key_of s.core.sw) (group_of s.core.sw) g (length m) from Read (upwards p) = found_up _ _ _ _ from Read p r.0 refl r.1 r.2 in
      let ws = words_of (key_of s.core.sw) (group_of s.core.sw) g (length m) from m in
      let few = field-few n.first in
      let alike : popped_from a ws k 0 s.regs ≡ popped_from a (drop p m) k 0 s.regs =
      popped-alike a ws (drop p m) k 0 s.regs
      (λ j l y. words-at _ _ _ _ from m (upwards p) f (registers-few a (field_b n.first)) j (omega arith) (λ (z : j ≡ 15 - a). y (omega (arith, few))) ∙ sym (get_or-drop p m j 0)) in
      finished s m g n from (at_operand n 0) (rw o refl) (rw o refl) (found-clear _ _ _ _ from Read (upwards p) f) (none_open _ _ _ _ n Write)
      (popped_all (context_of s) n (drop p m)) (rw (o, alike) refl) t w h (i ∙ operand-unwritten _ _ _ _ n _ m)

  -- ---- STM

  pub stored_here : operation_of n.form ≡ 50 → (p : ℕ) → ExtentAt Write (key_of s.core.sw) (group_of s.core.sw) g (length m) n.address (field_a n.first + 1) p
      → (t : Processor) (w : List ℕ) → t ≡ affected s (stored_all (context_of s) n) → w ≡ stored_at (upwards p) s.regs (field_a n.first + 1) 0 m → Finished s m g n t w
  unfolding reads_of writes_of all_from words_read executed stored_all rearranged context_of
  stored_here o p r t w h i =
      let to = span_from n.address (field_a n.first + 1) in
      let f : Found (key_of s.core.sw) (group_of s.core.sw) g (length m) to Write (upwards p) = found_up _ _ _ _ to Write p r.0 refl r.1 r.2 in
      finished s m g n (at_operand n 0) to (rw o refl) (rw o refl) (none_open _ _ _ _ n Read) (found-clear _ _ _ _ to Write (upwards p) f)
      (stored_all (context_of s) n) (rw o refl) t w h (i ∙ sym (stored-found _ _ _ _ to s.regs (upwards p) f (field-few n.first) m))

  -- ---- PSHM

  pub pushed-here : operation_of n.form ≡ 54 → (p : ℕ) → lookup Write (key_of s.core.sw) (group_of s.core.sw) g (length m) (wrapped (register s.regs 15 + 65535)) ≡ Ok p
      → registers_from (field_a n.first) (field_b n.first) ≤ wrapped (register s.regs 15 + 65535) % 4096 + 1
      → (t : Processor) (w : List ℕ) → t ≡ affected s (pushed_all (context_of s) n)
      → w ≡ stored_at (downwards p) (pushed_from s.regs (field_b n.first) (registers_from (field_a n.first) (field_b n.first)) 0) (registers_from (field_a n.first) (field_b n.first)) 0 m
      → Finished s m g n t w
  unfolding reads_of writes_of pushed_span words_read executed pushed_all rearranged context_of
  pushed-here o p e l t w h i =
      let to = pushed_span s.regs n in
      let f : Found (key_of s.core.sw) (group_of s.core.sw) g (length m) to Write (downwards p) = found-down _ _ _ _ to Write p e refl l in
      finished s m g n (at_operand n 0) to (rw o refl) (rw o refl) (none_open _ _ _ _ n Read) (found-clear _ _ _ _ to Write (downwards p) f)
      (pushed_all (context_of s) n) (rw o refl) t w h (i ∙ sym (stored-found _ _ _ _ to _ (downwards p) f (registers-few _ _) m))
