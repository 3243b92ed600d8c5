-- What the definitions say of the operations of each path: who may run them, which words they read and write, and what they do.
-- Assumes nothing.
use Prim.Native.Nat.{ℕ, suc, ◌+◌, ◌*◌, ◌/◌, ◌%◌, ◌<◌, ◌≤◌}
use mathlib.Core.Path.{◌≡◌, refl, sym, ap, ◌∙◌}
use mathlib.Core.Bool.{Bool, true, false, not, cond, ◌&&◌, ◌||◌, false≢true}
use mathlib.Core.List.{List, [], ◌∷◌}
use native.Mathlib.Omega.{arith}
use lib.Dec.{eqb, leb}
use lib.ListN.{get_or}
use borrow.Author.Tests.{eq-eqb, eqb-true, leb-true}
use Rattle.choice.specs.Select.{select}
use Rattle.choice.specs.Table.{among}
use Rattle.choice.proofs.TestLaws.{both, either, passes, Every, among-every}
use Rattle.page.specs.declared.Span.{Span}
use Rattle.decode.specs.Forms.{mode_of, operation_of, privileged_operations}
use Rattle.machine.specs.declared.Instruction.{Instruction}
use Rattle.machine.specs.declared.Class.TheVariants.{User}
use Rattle.machine.specs.State.{cs_of}
use Rattle.machine.specs.Machine.{Effect, span_from}
use Rattle.fixed_add.specs.declared.Outcome.{Outcome}
use Rattle.isa.specs.Fields.{register}
use Rattle.isa.specs.Addressing.{in_memory, operand, double_operand, accumulator}
use Rattle.isa.specs.Accesses.{words_read, words_written, reads_of, writes_of}
use Rattle.isa.specs.Effects.{Context, fixed_overflow, single, double, stored, jumped}
use Rattle.isa.specs.Words.{register_pair, jump_operation, load_operation, store_operation}
use Rattle.isa.specs.Integers.{single_outcome, double_outcome, integer_operation, logical_operation}
use Rattle.isa.specs.Execute.{ordinary, executed}
use Rattle.isa.specs.Mil1750.{class_of}
use Rattle.form_table.specs.FormNumbers.{exceptions, path_of, need_of}
use Rattle.form_table.proofs.NeedsLaws.{operand_read, operand-written}
use Rattle.fast_accumulate.specs.Paths.{plain, into_single, into_double, target, word_stored, is_taken}

-- ---- the path of an operation

-- what is tested at every operation whose path is w holds of each of them
of-path : (w : ℕ) (f : ℕ → Bool) → ((k : ℕ) → k < 256 → not (eqb (path_of k) w) || f k ≡ true) → (k : ℕ) → k < 256 → path_of k ≡ w → f k ≡ true
of-path w f t k h e =
    either (not (eqb (path_of k) w)) (f k) (λ u. absurd (false≢true (ap not (sym (eq-eqb _ _ e)) ∙ u))) (λ u. u) (t k h)

-- the words read and written of each path, as a need
abbrev needs : ℕ → ℕ
needs w = 128 * w + select w ((1, 1) ∷ (2, 2) ∷ (3, 4) ∷ (5, 8) ∷ (8, 3) ∷ []) 0

needs-told : (k : ℕ) → k < 256 → eqb (path_of k) 0 || eqb (need_of k) (needs (path_of k)) ≡ true
unfolding need_of exceptions path_of words_read words_written
needs-told k h = passes (λ (j : ℕ). eqb (path_of j) 0 || eqb (need_of j) (needs (path_of j))) 256 refl k h

-- the operation of each path above 5
abbrev pub system_of : ℕ → ℕ
system_of w = select w ((6, 1) ∷ (7, 30) ∷ []) 35

systems-told : (k : ℕ) → k < 256 → leb (path_of k) 5 || eqb k (system_of (path_of k)) ≡ true
unfolding path_of
systems-told k h = passes (λ (j : ℕ). leb (path_of j) 5 || eqb j (system_of (path_of j))) 256 refl k h

-- ---- an instruction whose path is w

module _ (n : Instruction) (w : ℕ) (e : path_of (operation_of n.form) ≡ w) where
  need-is : 0 < w → need_of (operation_of n.form) ≡ needs w
  need-is h =
      either (eqb (path_of (operation_of n.form)) 0) (eqb (need_of (operation_of n.form)) (needs (path_of (operation_of n.form))))
      (λ u. let z : path_of (operation_of n.form) ≡ 0 = eqb-true _ _ u in absurd (omega (arith, z, e, h)))
      (λ u. eqb-true _ _ u ∙ ap needs e)
      (needs-told (operation_of n.form) (omega arith))

  -- above 5 it tells the operation
  pub path-system : 5 < w → operation_of n.form ≡ system_of w
  path-system h =
      either (leb (path_of (operation_of n.form)) 5) (eqb (operation_of n.form) (system_of (path_of (operation_of n.form))))
      (λ u. let z : path_of (operation_of n.form) ≤ 5 = leb-true _ _ u in absurd (omega (arith, z, e, h)))
      (λ u. eqb-true _ _ u ∙ ap system_of e)
      (systems-told (operation_of n.form) (omega arith))

  -- it is another one than j, which has another path
  other : (j i : ℕ) → path_of j ≡ i → (i ≡ w → ⊥) → eqb (operation_of n.form) j ≡ false
  other j i d h = by (eqb (operation_of n.form) j) refl
    where
      by : (b : Bool) → eqb (operation_of n.form) j ≡ b → eqb (operation_of n.form) j ≡ false
      by true u = absurd (h (sym d ∙ sym (ap path_of (eqb-true _ _ u)) ∙ e))
      by false u = u

  -- up to 5 any key may run it
  pub path-user : w < 6 → class_of (operation_of n.form) ≡ User
  unfolding class_of privileged_operations path_of
  path-user h = rw (other 30 7 refl (λ z. omega (arith, z, h)), other 1 6 refl (λ z. omega (arith, z, h)), other 35 8 refl (λ z. omega (arith, z, h))) refl

-- the words that it reads and writes, by the path's need
module _ (n : Instruction) (w k j : ℕ) (e : path_of (operation_of n.form) ≡ w) (h : 0 < w)
    (p : needs w / 64 % 2 ≡ 0) (q : needs w / 16 % 2 ≡ 0) (r : needs w / 32 % 2 ≡ 0) (s : needs w % 4 ≡ k) (t : needs w / 4 % 4 ≡ j) where
  pub path-reads : (regs : List ℕ) → reads_of regs n ≡ span_from n.address (cond (in_memory (mode_of n.form)) k 0)
  path-reads regs =
      operand_read regs n (needs w) (sym (need-is n w e h)) p (λ z. absurd (omega (arith, z, q)))
      ∙ ap (λ (c : ℕ). span_from n.address (cond (in_memory (mode_of n.form)) c 0)) s

  pub path-writes : (regs : List ℕ) → writes_of regs n ≡ span_from n.address (cond (in_memory (mode_of n.form)) j 0)
  path-writes regs =
      operand-written regs n (needs w) (sym (need-is n w e h)) p (λ z. absurd (omega (arith, z, r)))
      ∙ ap (λ (c : ℕ). span_from n.address (cond (in_memory (mode_of n.form)) c 0)) t

-- the number of words that it reads at its derived address, and of those that it writes there
module _ (n : Instruction) (w : ℕ) (e : path_of (operation_of n.form) ≡ w) (h : 0 < w) (k : ℕ) where
  pub path-count : needs w % 4 ≡ k → need_of (operation_of n.form) % 4 ≡ k
  path-count i = ap (λ (m : ℕ). m % 4) (need-is n w e h) ∙ i

  pub path-store : needs w / 4 % 4 ≡ k → need_of (operation_of n.form) / 4 % 4 ≡ k
  path-store i = ap (λ (m : ℕ). m / 4 % 4) (need-is n w e h) ∙ i

-- whether the operand is in memory, by how many words there are
module _ (b : Bool) (k c : ℕ) (e : cond b (suc k) 0 ≡ c) where
  pub some_words : 0 < c → b ≡ true
  some_words h = by b e
    where
      by : (b : Bool) → cond b (suc k) 0 ≡ c → b ≡ true
      by true e = refl
      by false e = absurd (omega (arith, e, h))

  pub no_words : c ≤ 0 → b ≡ false
  no_words h = by b e
    where
      by : (b : Bool) → cond b (suc k) 0 ≡ c → b ≡ false
      by true e = absurd (omega (arith, e, h))
      by false e = refl

-- one that has a path of its own is not on blocks, nor at a register
abbrev unmarked : ℕ → Bool
unmarked k = eqb (need_of k / 64 % 2) 0 && (eqb (need_of k / 16 % 2) 0 && eqb (need_of k / 32 % 2) 0)

marks-told : (k : ℕ) → k < 256 → eqb (path_of k) 0 || unmarked k ≡ true
unfolding need_of exceptions path_of words_read words_written
marks-told k h = passes (λ (j : ℕ). eqb (path_of j) 0 || unmarked j) 256 refl k h

module _ (n : Instruction) (h : 0 < path_of (operation_of n.form)) where
  abbrev need : ℕ
  need = need_of (operation_of n.form)

  clear : unmarked (operation_of n.form) ≡ true
  clear =
      either (eqb (path_of (operation_of n.form)) 0) (unmarked (operation_of n.form))
      (λ u. let z : path_of (operation_of n.form) ≡ 0 = eqb-true _ _ u in absurd (omega (arith, z, h))) (λ u. u) (marks-told (operation_of n.form) (omega arith))

  marks : (need / 64 % 2 ≡ 0) × (need / 16 % 2 ≡ 0) × (need / 32 % 2 ≡ 0)
  marks =
      let t = both (eqb (need / 64 % 2) 0) (eqb (need / 16 % 2) 0 && eqb (need / 32 % 2) 0) clear in
      let v = both (eqb (need / 16 % 2) 0) (eqb (need / 32 % 2) 0) t.1 in
      (eqb-true _ _ t.0, eqb-true _ _ v.0, eqb-true _ _ v.1)

  pub path-off-block : need_of (operation_of n.form) / 64 % 2 ≡ 0
  path-off-block = marks.0

  -- how many words it reads, and writes, by a count that is that of its span
  pub path-counted : (c : ℕ)
      → ((regs : List ℕ) → need_of (operation_of n.form) / 64 % 2 ≡ 0 → c ≡ (reads_of regs n).count)
      → (k : ℕ) → need_of (operation_of n.form) % 4 ≡ k → cond (in_memory (mode_of n.form)) k 0 ≡ c
  path-counted c f k i =
      sym (f [] path-off-block ∙ ap (λ (s : Span). s.count) (operand_read [] n _ refl path-off-block (λ z. let m = marks.1 in omega (arith, z, m)))
      ∙ ap (λ (j : ℕ). cond (in_memory (mode_of n.form)) j 0) i)

  pub path-stored : (c : ℕ) → ((regs : List ℕ) → need_of (operation_of n.form) / 64 % 2 ≡ 0 → c ≡ (writes_of regs n).count)
      → (k : ℕ) → need_of (operation_of n.form) / 4 % 4 ≡ k → cond (in_memory (mode_of n.form)) k 0 ≡ c
  path-stored c f k i =
      sym (f [] path-off-block ∙ ap (λ (s : Span). s.count) (operand-written [] n _ refl path-off-block (λ z. let m = marks.2 in omega (arith, z, m)))
      ∙ ap (λ (j : ℕ). cond (in_memory (mode_of n.form)) j 0) i)

-- ---- what it does

-- the operations of each path
abbrev ones : List ℕ
ones = 38 ∷ 55 ∷ 63 ∷ 81 ∷ 82 ∷ []

abbrev twos : List ℕ
twos = 39 ∷ 59 ∷ 67 ∷ []

abbrev threes : List ℕ
threes = 45 ∷ 46 ∷ []

abbrev fours : List ℕ
fours = 24 ∷ 27 ∷ 28 ∷ 29 ∷ 31 ∷ 32 ∷ 33 ∷ 34 ∷ []

abbrev fives : List ℕ
fives = 48 ∷ []

module _ (n : Instruction) where
  -- what a path's operations do, given of each of them
  does : (w : ℕ) (ks : List ℕ) (f : Context → List ℕ → Effect) → ((k : ℕ) → k < 256 → not (eqb (path_of k) w) || among k ks ≡ true)
      → Every (λ k. operation_of n.form ≡ k → (v : Context) (ws : List ℕ) → executed v n ws ≡ f v ws) ks
      → path_of (operation_of n.form) ≡ w → (v : Context) (ws : List ℕ) → executed v n ws ≡ f v ws
  does w ks f t p e =
      among-every (λ k. operation_of n.form ≡ k → (v : Context) (ws : List ℕ) → executed v n ws ≡ f v ws) ks p (operation_of n.form)
      (of-path w (λ k. among k ks) t (operation_of n.form) (omega arith) e) refl

  -- one word goes into the accumulator
  abbrev pub singled : Context → ℕ → Outcome ℕ
  singled v x = into_single (operation_of n.form) (register v.regs (accumulator n)) (operand v.regs n x)

  single-does : path_of (operation_of n.form) ≡ 1 → (v : Context) (ws : List ℕ) → executed v n ws ≡ single_outcome v n (accumulator n) (singled v (get_or ws 0 0))
  unfolding executed ordinary load_operation integer_operation logical_operation single single_outcome into_single plain fixed_overflow path_of
  single-does =
      does 1 ones (λ v ws. single_outcome v n (accumulator n) (singled v (get_or ws 0 0))) (passes (λ k. not (eqb (path_of k) 1) || among k ones) 256 refl)
      (λ e v ws. rw e refl, (λ e v ws. rw e refl, (λ e v ws. rw e refl, (λ e v ws. rw e refl, (λ e v ws. rw e refl, tt)))))

  -- x is the word read
  pub does-single : path_of (operation_of n.form) ≡ 1 → (v : Context) (ws : List ℕ) (x : ℕ) → x ≡ get_or ws 0 0 → executed v n ws ≡ single_outcome v n (accumulator n) (singled v x)
  does-single e v ws x h = single-does e v ws ∙ ap (λ (u : ℕ). single_outcome v n (accumulator n) (singled v u)) (sym h)

  -- two words go there
  abbrev pub doubled : Context → ℕ → ℕ → Outcome ℕ
  doubled v x y = into_double (operation_of n.form) (register_pair v.regs (target n)) (double_operand v.regs n x y)

  double-does : path_of (operation_of n.form) ≡ 2 → (v : Context) (ws : List ℕ)
      → executed v n ws ≡ double_outcome v n (target n) (doubled v (get_or ws 0 0) (get_or ws 1 0))
  unfolding executed ordinary load_operation integer_operation double double_outcome into_double target plain fixed_overflow path_of
  double-does =
      does 2 twos (λ v ws. double_outcome v n (target n) (doubled v (get_or ws 0 0) (get_or ws 1 0))) (passes (λ k. not (eqb (path_of k) 2) || among k twos) 256 refl)
      (λ e v ws. rw e refl, (λ e v ws. rw e refl, (λ e v ws. rw e refl, tt)))

  -- x and y are the words read
  pub does-double : path_of (operation_of n.form) ≡ 2 → (v : Context) (ws : List ℕ) (x y : ℕ) → x ≡ get_or ws 0 0 → y ≡ get_or ws 1 0
      → executed v n ws ≡ double_outcome v n (target n) (doubled v x y)
  does-double e v ws x y h i = rw (h, i) (double-does e v ws)

  -- a word is stored
  pub does-store : path_of (operation_of n.form) ≡ 3 → (v : Context) (ws : List ℕ) → executed v n ws ≡ stored v n (word_stored v.regs n) 0 0
  unfolding executed ordinary store_operation word_stored path_of
  does-store =
      does 3 threes (λ v ws. stored v n (word_stored v.regs n) 0 0) (passes (λ k. not (eqb (path_of k) 3) || among k threes) 256 refl)
      (λ e v ws. rw e refl, (λ e v ws. rw e refl, tt))

  -- two are
  pub does-pair : path_of (operation_of n.form) ≡ 5 → (v : Context) (ws : List ℕ)
      → executed v n ws ≡ stored v n (register v.regs (accumulator n)) (register v.regs (accumulator n + 1)) 0
  unfolding executed ordinary store_operation path_of
  does-pair =
      does 5 fives (λ v ws. stored v n (register v.regs (accumulator n)) (register v.regs (accumulator n + 1)) 0) (passes (λ k. not (eqb (path_of k) 5) || among k fives) 256 refl)
      (λ e v ws. rw e refl, tt)

  -- on to the derived address or the next instruction
  pub does-branch : path_of (operation_of n.form) ≡ 4 → (v : Context) (ws : List ℕ) → executed v n ws ≡ jumped v n (is_taken n (cs_of v.sw))
  unfolding executed ordinary jump_operation is_taken path_of
  does-branch =
      does 4 fours (λ v ws. jumped v n (is_taken n (cs_of v.sw))) (passes (λ k. not (eqb (path_of k) 4) || among k fours) 256 refl)
      (λ e v ws. rw e refl, (λ e v ws. rw e refl, (λ e v ws. rw e refl, (λ e v ws. rw e refl, (λ e v ws. rw e refl, (λ e v ws. rw e refl, (λ e v ws. rw e refl, (λ e v ws. rw e refl, tt))))))))
