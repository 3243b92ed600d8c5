-- The loops of the operations on blocks by a turn, and stores from two buffers. Assumes nothing.
use Rattle.std.proofs.Common.{◌≡◌, ℕ, zero, suc, ◌+◌, ◌-◌, ◌%◌, ◌<◌, ◌≤◌, Bool, true, false, cond, eqb, List, [], ◌∷◌, length, get_or, drop, set, refl, sym, ap, ◌∙◌, ◌++◌, subst, add-one, sub-one, arith}
use lib.Bits.{or_zero_r}
use lib.ListN.{get_or-append}
use lib.Seq.{sets, sets-eq}
use Rattle.page.specs.declared.Span.{Span}
use Rattle.page.specs.Spans.{wrapped, written_from, written}
use Rattle.decode.specs.Forms.{mode_of}
use Rattle.isa.specs.Fields.{field_a, register, with_register, with_registers}
use Rattle.isa.specs.Addressing.{in_memory}
use Rattle.isa.specs.Accesses.{at_operand, moved_span}
use Rattle.machine.specs.declared.Instruction.{Instruction}
use Rattle.machine.specs.State.{cs_of}
use Rattle.machine.specs.Machine.{next_of}
use Rattle.isa.specs.Effects.{Context, effect, nothing, three}
use Rattle.isa.specs.Blocks.{rearranged, popped_from, moved_word, pushed_word, pushed_from}

-- ---- LM: words that do not pass register 15

registers-set : (ws regs : List ℕ) (i : ℕ) → i + length ws ≤ 16 → with_registers regs i ws ≡ sets regs i ws
unfolding with_registers with_register
registers-set [] regs i h = refl
registers-set (w ∷ ws) regs i h =
    let e : i % 16 ≡ i = omega arith in
    rw (e, add-one) (registers-set ws (set regs i w) (suc i) (omega arith))

-- words in the first registers
pub loaded : (regs ws : List ℕ) (n : ℕ) → length regs ≡ 16 → length ws ≡ n → n ≤ 16 → ws ++ drop n regs ≡ with_registers regs 0 ws
loaded regs ws n l k h =
    let e : 0 + length ws ≡ n = omega arith in
    sym (registers-set ws regs 0 (omega arith) ∙ sets-eq ws regs 0 (omega arith) ∙ rw e refl)

-- ---- POPM: n words are left, the first has the number i

pub popped-step : (a : ℕ) (ws : List ℕ) (n m i : ℕ) (regs : List ℕ) → n ≡ m + 1
    → (x : List ℕ) → x ≡ cond (eqb ((a + i) % 16) 15) regs (with_register regs (a + i) (get_or ws i 0))
    → popped_from a ws n i regs ≡ popped_from a ws m (i + 1) x
unfolding popped_from
popped-step a ws n m i regs k x e =
    let f : n ≡ suc m = omega arith in
    rw (f, e, add-one) refl

-- ---- PSHM: each word by its number

-- word number j of k words from number i on
pub pushed_at : (regs : List ℕ) (b k i j q : ℕ) → j < k → q ≡ i + j → get_or (pushed_from regs b k i) j 0 ≡ pushed_word regs ((16 + b - q) % 16) q
unfolding pushed_from
pushed_at regs b zero i j q l e = absurd (omega arith)
pushed_at regs b (suc k) i zero q l e = let f : q ≡ i = omega arith in rw f refl
pushed_at regs b (suc k) i (suc j) q l e = pushed_at regs b k (suc i) j q (omega arith) (omega arith)

-- k words are left to go into a buffer, the first has the number i
module _ (regs : List ℕ) (b : ℕ) where
  pub pushed_none : (k i : ℕ) (buf : List ℕ) → k ≤ 0 → sets buf i (pushed_from regs b k i) ≡ buf
  unfolding pushed_from
  pushed_none zero i buf h = refl
  pushed_none (suc k) i buf h = absurd (omega arith)

  pub pushed-step : (k i : ℕ) (buf : List ℕ) → 0 < k → (v : ℕ) → v ≡ pushed_word regs ((16 + b - i) % 16) i → (n : ℕ) → n ≡ k - 1
      → sets buf i (pushed_from regs b k i) ≡ sets (set buf i v) (i + 1) (pushed_from regs b n (i + 1))
  unfolding pushed_from
  pushed-step zero i buf h v e n f = absurd (omega arith)
  pushed-step (suc k) i buf h v e n f = rw (e, f, sub-one, add-one) refl

  pushed-length : (k i : ℕ) → length (pushed_from regs b k i) ≡ k
  unfolding pushed_from
  pushed-length zero i = refl
  pushed-length (suc k) i = ap suc (pushed-length k (suc i))

  -- the first k words of the buffer are those pushed
  pub pushed-first : (k : ℕ) (buf : List ℕ) → k ≤ length buf → (j : ℕ) → j < k → get_or (sets buf 0 (pushed_from regs b k 0)) j 0 ≡ get_or (pushed_from regs b k 0) j 0
  pushed-first k buf h j l =
      let e = pushed-length k 0 in
      ap (λ x. get_or x j 0) (sets-eq (pushed_from regs b k 0) buf 0 (omega (arith, e))) ∙ get_or-append (pushed_from regs b k 0) _ 0 j (omega (arith, e))

-- ---- MOV with a count of zero

pub nothing_is : (v : Context) (n : Instruction) → nothing v n ≡ rearranged v v.regs (next_of n) (cs_of v.sw) (three 0 0 0)
unfolding nothing effect with_registers rearranged
nothing_is v n = rw (or_zero_r v.pi) refl

-- ---- stores from two buffers that agree on the words of the span

module _ (key group : ℕ) (g : List ℕ) (size : ℕ) (p : Span) (buf ws : List ℕ) where
  agree-from : (n i a : ℕ) (m : List ℕ) → ((j : ℕ) → i ≤ j → j < i + n → get_or buf j 0 ≡ get_or ws j 0)
      → written_from key group g size p buf n i a m ≡ written_from key group g size p ws n i a m
  unfolding written_from
  agree-from zero i a m h = refl
  agree-from (suc n) i a m h = rw (h i (omega arith) (omega arith)) (agree-from n (suc i) (wrapped (a + p.stride)) _ (λ j l u. h j (omega arith) (omega arith)))

  pub written-agree : ((j : ℕ) → j < p.count → get_or buf j 0 ≡ get_or ws j 0) → (m : List ℕ) → written key group g size p buf m ≡ written key group g size p ws m
  unfolding written
  written-agree h m = agree-from p.count 0 p.start m (λ j l u. h j (omega arith))

  -- no words: no stores
  pub unwritten : (m : List ℕ) → p.count ≡ 0 → m ≡ written key group g size p ws m
  unfolding written written_from
  unwritten m e = rw e refl

pub none-chosen : (t : Bool) → ◌≡◌ {A = ℕ} (cond t 0 0) 0
none-chosen true = refl
none-chosen false = refl

module _ (key group : ℕ) (g : List ℕ) (size : ℕ) (n : Instruction) where
  -- no words at the derived address
  pub operand-unwritten : (ws m : List ℕ) → m ≡ written key group g size (at_operand n 0) ws m
  unfolding at_operand
  operand-unwritten ws m = unwritten key group g size _ ws ws m (none-chosen (in_memory (mode_of n.form)))

  -- MOV stores the first word of a buffer, or none
  moved_word-at : (v : Context) (buf : List ℕ) (t : Bool) (j : ℕ) → j < cond t 0 1 → get_or buf j 0 ≡ get_or (moved_word v n (get_or buf 0 0) t).words j 0
  unfolding moved_word rearranged
  moved_word-at v buf true j l = absurd (omega arith)
  moved_word-at v buf false zero l = refl
  moved_word-at v buf false (suc j) l = absurd (omega arith)

  pub moved-written : (v : Context) (k : ℕ) (buf m regs : List ℕ) → v.regs ≡ regs
      → written key group g size (moved_span regs n k) buf m
      ≡ written key group g size (moved_span regs n k) (moved_word v n (get_or buf 0 0) (eqb (register v.regs (field_a n.first + 1)) 0)).words m
  unfolding moved_span
  moved-written v k buf m regs e =
      subst
      (λ r. written key group g size (moved_span r n k) buf m ≡ written key group g size (moved_span r n k) (moved_word v n (get_or buf 0 0) (eqb (register v.regs (field_a n.first + 1)) 0)).words m)
      e
      (written-agree key group g size (moved_span v.regs n k) buf _ (moved_word-at v buf (eqb (register v.regs (field_a n.first + 1)) 0)) m)
