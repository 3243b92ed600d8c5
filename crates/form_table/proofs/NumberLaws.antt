-- The form number of a first word, by the table; and what a form number tells of a form: its path, its marks and its words. Assumes nothing.
use Prim.Native.Nat.{ℕ, ◌+◌, ◌*◌, ◌/◌, ◌%◌, ◌<◌, ◌≤◌}
use mathlib.Core.Path.{◌≡◌, refl, sym, ap, ◌∙◌}
use mathlib.Core.Bool.{Bool, true, false, not, cond, ◌&&◌, ◌||◌, false≢true}
use mathlib.Core.List.{List, [], ◌∷◌}
use mathlib.Core.Logic.{◌⊎◌, ⊎_elim}
use native.Mathlib.Omega.{arith}
use lib.Dec.{eqb, leb, ltb}
use lib.ListN.{get_or}
use borrow.Author.Tests.{eq-eqb, eqb-true, leb-true, ltb-true}
use Rattle.choice.specs.Select.{select}
use Rattle.choice.proofs.SelectLaws.{otherwise}
use Rattle.choice.proofs.TestLaws.{both, either, same, passes}
use Rattle.choice.proofs.TableLaws.{listed}
use Rattle.decode.specs.Forms.{mode_of, operation_of}
use Rattle.decode.specs.Decode.{form_claimed, decode_of, form_of}
use Rattle.decode.proofs.DecodeLaws as forms
use Rattle.decode.proofs.FormLaws.{Legal, opcode-legal, decode-legal}
use Rattle.machine.specs.declared.Instruction.{Instruction}
use Rattle.isa.specs.Addressing.{in_memory}
use Rattle.isa.specs.Accesses.{words_read, words_written, reads_of, writes_of}
use Rattle.form_table.specs.FormNumbers.{exceptions, path_of, need_of, rule_of, counts_of, number_of, numbers}
use Rattle.form_table.proofs.NeedsLaws.{register-read, operand_read, register-written, operand-written, reading-told, reading-untold, writing-told, writing-untold}

-- ---- the form number of a first word

-- a form that is 0 or legal is below 65,536
small : (form : ℕ) → (form ≡ 0) ⊎ Legal form → form < 65536
small form = ⊎_elim (λ e. omega (arith, e)) (λ l. omega (arith, l.short))

pub opcode-small : (op : ℕ) → form_of op < 65536
opcode-small op = small (form_of op) (opcode-legal op)

pub decode-small : (w : ℕ) → decode_of w < 65536
decode-small w = small (decode_of w) (decode-legal w)

-- the numbers with paragraph 0, and what the bits x and y after the opcode choose under each
unfoldable pub extended : ℕ → ℕ → List (ℕ × ℕ)
extended x y = (0x05001300, number_of (form_claimed 0x40 x 0)) ∷ (0x05002900, number_of (form_claimed 0x4A 0 y)) ∷ (0x05001000, number_of (form_claimed 0xFF x y)) ∷ []

-- the number of a first word by the number of its opcode
abbrev pub resolved : ℕ → ℕ → ℕ → ℕ
resolved number x y = select number (extended x y) number

-- a number with a paragraph is that of the word
pub paragraphed : (number x y : ℕ) → (number % 256 ≡ 0 → ⊥) → number ≡ resolved number x y
unfolding extended
paragraphed number x y h =
    let no : (k : ℕ) → k % 256 ≡ 0 → number ≡ k → ⊥ = λ k i e. h (ap (λ n. n % 256) e ∙ i) in
    sym (otherwise number (extended x y) number (((tt, no 0x05001300 refl), no 0x05002900 refl), no 0x05001000 refl))

chosen : (b : Bool) (m n : ℕ) → number_of (cond b m n) ≡ cond b (number_of m) (number_of n)
chosen true m n = refl
chosen false m n = refl

-- the number tells the form
pub number-form : (form : ℕ) → form < 65536 → number_of form % 65536 ≡ form
unfolding number_of
number-form form h = omega arith

module _ (form : ℕ) (h : form < 65536) where
  -- so forms are told apart by their numbers
  key : (k m : ℕ) → k < 65536 → number_of k ≡ m → eqb form k ≡ eqb (number_of form) m
  key k m l e =
      same (eqb form k) (eqb (number_of form) m) (λ t. eq-eqb (number_of form) m (ap number_of (eqb-true form k t) ∙ e))
      (λ t. eq-eqb form k (sym (number-form form h) ∙ ap (λ (n : ℕ). n % 65536) (eqb-true (number_of form) m t ∙ sym e) ∙ number-form k l))

  numbered : (x y : ℕ) → number_of (forms.resolved form x y) ≡ resolved (number_of form) x y
  unfolding forms.extended extended number_of rule_of counts_of need_of exceptions path_of words_read words_written in_memory
  numbered x y =
      rw (key 0x1300 0x05001300 (omega arith) refl, key 0x2900 0x05002900 (omega arith) refl, key 0x1000 0x05001000 (omega arith) refl)
      (chosen (eqb (number_of form) 0x05001300) _ _ ∙ ap (cond (eqb (number_of form) 0x05001300) (number_of (form_claimed 0x40 x 0)))
      (chosen (eqb (number_of form) 0x05002900) _ _ ∙ ap (cond (eqb (number_of form) 0x05002900) (number_of (form_claimed 0x4A 0 y))) (chosen (eqb (number_of form) 0x05001000) _ _)))

-- a list that is the table gives the number of every first word
pub decoded : (table : List ℕ) (w : ℕ) → table ≡ numbers → w < 65536 → number_of (decode_of w) ≡ resolved (get_or table (w / 256) 0) (w / 16 % 16) (w % 16)
unfolding numbers
decoded table w e h =
    rw (listed (λ (op : ℕ). number_of (form_of op)) 256 (w / 256) table e (omega arith))
    (ap number_of (forms.decoded w h) ∙ numbered (form_of (w / 256)) (opcode-small (w / 256)) (w / 16 % 16) (w % 16))

-- ---- what it tells of the form

-- the words of an operation, whether its operand is in memory or not
abbrev counted : Bool → ℕ → ℕ
counted b k = select k ((37, 1) ∷ (36, 4) ∷ []) (cond b (need_of k % 16) 0)

abbrev tested : Bool → ℕ → Bool
tested b k =
    (eqb (counted b k % 4) (cond (eqb k 37) 1 (cond b (need_of k % 4) 0)) && eqb (counted b k / 4 % 4) (cond (eqb k 36) 1 (cond b (need_of k / 4 % 4) 0)))
    && ltb (counted b k) 16

all_tested : (b : Bool) (k : ℕ) → k < 256 → tested b k ≡ true
unfolding need_of exceptions path_of words_read words_written
all_tested true k h = passes (tested true) 256 refl k h
all_tested false k h = passes (tested false) 256 refl k h

-- the rule of an operation, computed at each: a path up to 8, one on blocks, any other
abbrev below-ten : ℕ → Bool
below-ten k = (leb 9 (rule_of k) || eqb (path_of k) (rule_of k)) && (not (eqb (rule_of k) 9) || eqb (need_of k / 64 % 2) 1)

abbrev from-ten : ℕ → Bool
from-ten k = (leb (rule_of k) 9 || (eqb (path_of k) 0 && eqb (need_of k / 64 % 2) 0)) && ltb 0 (rule_of k)

abbrev ruled : ℕ → Bool
ruled k = below-ten k && from-ten k

all-ruled : (k : ℕ) → k < 256 → ruled k ≡ true
unfolding rule_of need_of exceptions path_of words_read words_written
all-ruled k h = passes ruled 256 refl k h

module _ (form : ℕ) where
  -- its operation, and whether its operand is in memory
  abbrev op : ℕ
  op = operation_of form

  abbrev mem : Bool
  mem = in_memory (mode_of form)

  counts : (counts_of form % 4 ≡ cond (eqb op 37) 1 (cond mem (need_of op % 4) 0)) × (counts_of form / 4 % 4 ≡ cond (eqb op 36) 1 (cond mem (need_of op / 4 % 4) 0)) × (counts_of form < 16)
  unfolding counts_of
  counts =
      let t = both _ _ (all_tested mem op (omega arith)) in
      let u = both _ _ t.0 in
      (eqb-true _ _ u.0, eqb-true _ _ u.1, ltb-true _ _ t.1)

  module _ (number : ℕ) (e : number ≡ number_of form) (h : form < 65536) where
    above : number / 65536 ≡ 128 * rule_of op + need_of op / 16 % 4 * 16 + counts_of form
    unfolding number_of
    above = let c = counts.2 in omega (arith, e, c)

    rule : number / 8388608 ≡ rule_of op
    rule = let a = above in let c = counts.2 in omega (arith, a, c)

    pub number_read : number / 1048576 % 2 ≡ need_of op / 16 % 2
    number_read = let a = above in let c = counts.2 in omega (arith, a, c)

    pub number-written : number / 2097152 % 2 ≡ need_of op / 32 % 2
    number-written = let a = above in let c = counts.2 in omega (arith, a, c)

    -- the rule by the range of the number
    pub number-least : 8388608 ≤ number
    number-least =
        let t = both (leb (rule_of op) 9 || (eqb (path_of op) 0 && eqb (need_of op / 64 % 2) 0)) (ltb 0 (rule_of op)) (both (below-ten op) (from-ten op) (all-ruled op (omega arith))).1 in
        let l = ltb-true 0 (rule_of op) t.1 in let r = rule in omega (arith, l, r)

    pub number-path : number < 75497472 → path_of op ≡ number / 8388608
    number-path b =
        let t = both (leb 9 (rule_of op) || eqb (path_of op) (rule_of op)) (not (eqb (rule_of op) 9) || eqb (need_of op / 64 % 2) 1) (both (below-ten op) (from-ten op) (all-ruled op (omega arith))).0 in
        either (leb 9 (rule_of op)) (eqb (path_of op) (rule_of op)) (λ u. let l = leb-true 9 (rule_of op) u in let r = rule in absurd (omega (arith, l, r, b)))
        (λ u. eqb-true _ _ u ∙ sym rule) t.0

    pub number-block : 75497472 ≤ number → number < 83886080 → need_of op / 64 % 2 ≡ 1
    number-block a b =
        let t = both (leb 9 (rule_of op) || eqb (path_of op) (rule_of op)) (not (eqb (rule_of op) 9) || eqb (need_of op / 64 % 2) 1) (both (below-ten op) (from-ten op) (all-ruled op (omega arith))).0 in
        let nine : rule_of op ≡ 9 = (let r = rule in omega (arith, r, a, b)) in
        either (not (eqb (rule_of op) 9)) (eqb (need_of op / 64 % 2) 1) (λ u. absurd (false≢true (sym (ap not (eq-eqb (rule_of op) 9 nine)) ∙ u))) (λ u. eqb-true _ _ u) t.1

    pub number-rest : 83886080 ≤ number → (path_of op ≡ 0) × (need_of op / 64 % 2 ≡ 0)
    number-rest a =
        let t = both (leb (rule_of op) 9 || (eqb (path_of op) 0 && eqb (need_of op / 64 % 2) 0)) (ltb 0 (rule_of op)) (both (below-ten op) (from-ten op) (all-ruled op (omega arith))).1 in
        either (leb (rule_of op) 9) (eqb (path_of op) 0 && eqb (need_of op / 64 % 2) 0) (λ u. let l = leb-true (rule_of op) 9 u in let r = rule in absurd (omega (arith, l, r, a)))
        (λ u. let v = both (eqb (path_of op) 0) (eqb (need_of op / 64 % 2) 0) u in (eqb-true _ _ v.0, eqb-true _ _ v.1)) t.0

    pub first_count : number / 65536 % 4 ≡ counts_of form % 4
    first_count = let a = above in omega (arith, a)

    pub second-count : number / 262144 % 4 ≡ counts_of form / 4 % 4
    second-count = let a = above in omega (arith, a)

    -- the words read, and those written, of one whose operation is not at a register
    pub count-read : eqb op 37 ≡ false → number / 65536 % 4 ≡ cond mem (need_of op % 4) 0
    count-read i = first_count ∙ counts.0 ∙ ap (λ (b : Bool). cond b 1 (cond mem (need_of op % 4) 0)) i

    pub count-written : eqb op 36 ≡ false → number / 262144 % 4 ≡ cond mem (need_of op / 4 % 4) 0
    count-written i = second-count ∙ counts.1 ∙ ap (λ (b : Bool). cond b 1 (cond mem (need_of op / 4 % 4) 0)) i

    count-at-read : eqb op 37 ≡ true → number / 65536 % 4 ≡ 1
    count-at-read i = first_count ∙ counts.0 ∙ ap (λ (b : Bool). cond b 1 (cond mem (need_of op % 4) 0)) i

    count-at-written : eqb op 36 ≡ true → number / 262144 % 4 ≡ 1
    count-at-written i = second-count ∙ counts.1 ∙ ap (λ (b : Bool). cond b 1 (cond mem (need_of op / 4 % 4) 0)) i

-- how many words an instruction that is not on blocks reads and writes, by its number
module _ (regs : List ℕ) (n : Instruction) (number : ℕ) (e : number ≡ number_of n.form) (h : n.form < 65536) (plain : need_of (operation_of n.form) / 64 % 2 ≡ 0) where
  pub reads-counted : number / 65536 % 4 ≡ (reads_of regs n).count
  reads-counted = by (eqb (operation_of n.form) 37) refl
    where
      by : (b : Bool) → eqb (operation_of n.form) 37 ≡ b → number / 65536 % 4 ≡ (reads_of regs n).count
      by true t = rw (register-read regs n _ refl plain (reading-told n.form t)) (count-at-read n.form number e h t)
      by false t = rw (operand_read regs n _ refl plain (reading-untold n.form t)) (count-read n.form number e h t)

  pub writes-counted : number / 262144 % 4 ≡ (writes_of regs n).count
  writes-counted = by (eqb (operation_of n.form) 36) refl
    where
      by : (b : Bool) → eqb (operation_of n.form) 36 ≡ b → number / 262144 % 4 ≡ (writes_of regs n).count
      by true t = rw (register-written regs n _ refl plain (writing-told n.form t)) (count-at-written n.form number e h t)
      by false t = rw (operand-written regs n _ refl plain (writing-untold n.form t)) (count-written n.form number e h t)
