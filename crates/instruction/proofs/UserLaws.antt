-- A user's operation: what it leaves, the words that it reads and writes, and what became of the machine. Assumes nothing.
use Rattle.std.proofs.Common.{Result, Ok, Err}
use Prim.Native.Nat.{ℕ, ◌+◌, ◌/◌, ◌%◌, ◌≤◌, ◌<◌}
use mathlib.Core.Path.{◌≡◌, refl, sym, ap, ◌∙◌}
use mathlib.Core.Bool.{Bool, true, false, cond, ◌&&◌, false≢true}
use mathlib.Core.List.{List, [], ◌∷◌}
use native.Mathlib.Omega.{arith}
use lib.Dec.{eqb, leb}
use lib.ListN.{length, get_or}
use borrow.Author.Tests.{leb-true, eqb-true}
use Rattle.choice.specs.Select.{select}
use Rattle.choice.proofs.TestLaws as tests
use Rattle.page.specs.declared.Refusal.{Refusal}
use Rattle.page.specs.declared.Access.TheVariants.{Fetch}
use Rattle.page.specs.declared.Span.{Span}
use Rattle.page.specs.Pages.{lookup}
use Rattle.page.specs.Spans.{wrapped, got_at}
use Rattle.decode.specs.Forms.{length_of, mode_of, operation_of, privileged_operations}
use Rattle.machine.specs.declared.Denial.{Denial}
use Rattle.machine.specs.declared.State.{State}
use Rattle.machine.specs.declared.Core.{Core}
use Rattle.decode.specs.Decode.{decode_of}
use Rattle.machine.specs.declared.Instruction.{Instruction}
use Rattle.machine.specs.declared.Class.TheVariants.{User}
use Rattle.machine.specs.State.{key_of, group_of, Processor, joined, processor, with_processor, with_pi, with_sw, with_ic, advanced}
use Rattle.machine.specs.Machine.{Became, Effect, span_from}
use Rattle.machine.specs.Instructions.{denial, affect, View, view, permitted, ready_at, redirected, derived, extended, granted, decoded, fetched, prepared}
use Rattle.machine.specs.Step.{affected, stored, perform, timed_by, timing}
use Rattle.isa.specs.Fields.{field_a, register}
use Rattle.isa.specs.Addressing.{in_memory}
use Rattle.isa.specs.Accesses.{words_read, words_written, at_operand, reads_of, writes_of}
use Rattle.isa.specs.Effects.{Context}
use Rattle.isa.specs.Execute.{ordinary, executed}
use Rattle.isa.specs.Mil1750.{class_of, context_of, mil1750}
use Rattle.form_table.specs.FormNumbers.{exceptions, path_of, need_of}
use Rattle.form_table.proofs.NeedsLaws.{told, untold, reads-span, writes-span}
use Rattle.block_registers.specs.Operation.{is_block, Worked}
use Rattle.machine.proofs.StepLaws.{keeps-key, keeps-group}
use Rattle.operand_words.specs.Gathers.{FirstThree}
use Rattle.instruction_retired.specs.declared.Retired.{Retired}
use Rattle.instruction_retired.specs.Settled.{retired_with, Lasting}
use Rattle.instruction_retired.proofs.RetiredLaws.{retired-lasting}

-- ---- whether the choice of an interrupt stays

-- a user's effect leaves it, as long as PI is what it was
pub settled-by : (c d : Core) (v : Retired) (regs regs' : List ℕ) (e : Effect) (n : ℕ) → v ≡ retired_with (eqb d.pi c.pi) d
    → joined d regs' ≡ affected (joined c regs) e → Lasting c n v
unfolding affected with_pi with_sw with_ic
settled-by c d v regs regs' e n i h =
    rw i (retired-lasting c d n (eqb d.pi c.pi) (λ k. record {
      pi-kept = eqb-true d.pi c.pi k;
      mk-kept = ap (λ (p : Processor). p.core.mk) h;
      enabled-kept = ap (λ (p : Processor). p.core.enabled) h;
      hold-kept = ap (λ (p : Processor). p.core.hold) h;
      key-kept = ap (λ (p : Processor). key_of p.core.sw) h ∙ keeps-key c.sw e.cs;
      group-kept = ap (λ (p : Processor). group_of p.core.sw) h ∙ keeps-group c.sw e.cs;
    }))

-- ---- an instruction up to its accesses, from its first word on

module _ (p : Processor) (m g : List ℕ) (key group : ℕ) (d : key ≡ key_of p.core.sw) (e : group ≡ group_of p.core.sw) (q : Result ℕ Refusal) (i : q ≡ lookup Fetch key group g (length m) p.core.ic) where
  -- it was found at a
  pub prepared-at : (a : ℕ) → q ≡ Ok a
      → prepared mil1750 p (view p.core m g) ≡ decoded mil1750 p (view p.core m g) (decode_of (get_or m a 0)) (get_or m a 0) (eqb (decode_of (get_or m a 0)) 0)
  unfolding prepared fetched got_at mil1750
  prepared-at a h = rw (← d, ← e, ← i, h) refl

  pub timing-at : (a : ℕ) → q ≡ Ok a → timing p.core (view p.core m g) false ≡ timed_by (Ok (get_or m a 0))
  unfolding timing got_at
  timing-at a h = rw (← d, ← e, ← i, h) refl

  -- it was refused
  pub timing-refused : (b : Refusal) → q ≡ Err b → timing p.core (view p.core m g) false ≡ 256
  unfolding timing timed_by got_at
  timing-refused b h = rw (← d, ← e, ← i, h) refl

  pub prepared-refused : (b : Refusal) → q ≡ Err b → prepared mil1750 p (view p.core m g) ≡ Err (denial b (wrapped (p.core.ic + 1)))
  unfolding prepared fetched got_at mil1750 advanced
  prepared-refused b h = rw (← d, ← e, ← i, h) refl

-- the form and the first word of an instruction that is ready, and d of one that is not
abbrev formed : ℕ × ℕ → Result Instruction Denial → ℕ × ℕ
formed d (Ok n) = (n.form, n.first)
formed d (Err e) = d

-- one that is ready has the form and the first word that it was prepared by
module _ (p : Processor) (v : View) where
  redirected-formed : (f w x : ℕ) (got : Result ℕ Refusal) → formed (f, w) (redirected p.core f w x got) ≡ (f, w)
  unfolding redirected ready_at
  redirected-formed f w x (Ok a) = refl
  redirected-formed f w x (Err b) = refl

  derived-formed : (f w x : ℕ) (b : Bool) → formed (f, w) (derived mil1750 p v f w x b) ≡ (f, w)
  unfolding derived ready_at
  derived-formed f w x false = refl
  derived-formed f w x true = redirected-formed f w x (v.read (mil1750.base (mode_of f) p w x))

  extended-formed : (f w : ℕ) (got : Result ℕ Refusal) → formed (f, w) (extended mil1750 p v f w got) ≡ (f, w)
  unfolding extended
  extended-formed f w (Ok x) = derived-formed f w x (eqb (mode_of f) 7)
  extended-formed f w (Err b) = refl

  granted-formed : (f w : ℕ) (a b : Bool) → formed (f, w) (granted mil1750 p v f w a b) ≡ (f, w)
  unfolding granted
  granted-formed f w false b = refl
  granted-formed f w true false = derived-formed f w 0 (eqb (mode_of f) 7)
  granted-formed f w true true = extended-formed f w (v.fetch (advanced p.core 1))

  decoded-formed : (f w : ℕ) (b : Bool) → formed (f, w) (decoded mil1750 p v f w b) ≡ (f, w)
  unfolding decoded
  decoded-formed f w true = refl
  decoded-formed f w false = granted-formed f w (permitted (mil1750.class (operation_of f)) (key_of p.core.sw)) (eqb (length_of f) 2)

  pub ready-form : (f w : ℕ) (b : Bool) (n : Instruction) → decoded mil1750 p v f w b ≡ Ok n → n.form ≡ f
  ready-form f w b n h = ap (λ (d : ℕ × ℕ). d.0) (sym (ap (formed (f, w)) h) ∙ decoded-formed f w b)

  pub ready-first : (f w : ℕ) (b : Bool) (n : Instruction) → decoded mil1750 p v f w b ≡ Ok n → n.first ≡ w
  ready-first f w b n h = ap (λ (d : ℕ × ℕ). d.1) (sym (ap (formed (f, w)) h) ∙ decoded-formed f w b)

-- ---- a user's operation

-- two operations of which one is on blocks and the other not
apart : (operation k : ℕ) → (is_block operation ≡ is_block k → ⊥) → eqb operation k ≡ false
apart operation k h = by (eqb operation k) refl
  where
    by : (b : Bool) → eqb operation k ≡ b → eqb operation k ≡ false
    by true e = absurd (h (ap is_block (eqb-true operation k e)))
    by false e = e

-- an operation that is not on blocks is none of theirs
differs : (operation k : ℕ) → is_block operation ≡ false → is_block k ≡ true → eqb operation k ≡ false
differs operation k h i = apart operation k (λ e. false≢true (sym h ∙ e ∙ i))

-- the weight of those on blocks, computed at every operation
block-told : (k : ℕ) → k < 256 → need_of k / 64 % 2 ≡ cond (is_block k) 1 0
unfolding need_of exceptions path_of words_read words_written is_block
block-told k h = eqb-true _ _ (tests.passes (λ (j : ℕ). eqb (need_of j / 64 % 2) (cond (is_block j) 1 0)) 256 refl k h)

pub block-need : (form : ℕ) → is_block (operation_of form) ≡ true → need_of (operation_of form) / 64 % 2 ≡ 1
block-need form h = block-told (operation_of form) (omega arith) ∙ ap (λ (b : Bool). cond b 1 0) h

module _ (form need : ℕ) (e : need ≡ need_of (operation_of form)) where
  weight : need / 64 % 2 ≡ cond (is_block (operation_of form)) 1 0
  weight = ap (λ (m : ℕ). m / 64 % 2) e ∙ block-told (operation_of form) (omega arith)

  pub on-block : need / 64 % 2 ≡ 1 → is_block (operation_of form) ≡ true
  on-block = told (is_block (operation_of form)) (need / 64 % 2) weight

  pub off-block : (need / 64 % 2 ≡ 1 → ⊥) → is_block (operation_of form) ≡ false
  off-block = untold (is_block (operation_of form)) (need / 64 % 2) weight

  weightless : is_block (operation_of form) ≡ false → need / 64 % 2 ≡ 0
  weightless h = weight ∙ ap (λ (b : Bool). cond b 1 0) h

-- where the words that it reads and writes start and how many they are, as the code finds them, are their spans
module _ (regs : List ℕ) (n : Instruction) (need from count : ℕ) (e : need ≡ need_of (operation_of n.form)) (h : is_block (operation_of n.form) ≡ false) where
  pub reads-by : (need / 64 % 2 ≡ 0 → from ≡ (reads_of regs n).start) → ((r : List ℕ) → need / 64 % 2 ≡ 0 → count ≡ (reads_of r n).count)
      → span_from from count ≡ reads_of regs n
  reads-by i j = let p = weightless n.form need e h in reads-span regs n need e p from count (i p) (j regs p)

  pub writes-by : (need / 64 % 2 ≡ 0 → from ≡ (writes_of regs n).start) → ((r : List ℕ) → need / 64 % 2 ≡ 0 → count ≡ (writes_of r n).count)
      → span_from from count ≡ writes_of regs n
  writes-by i j = let p = weightless n.form need e h in writes-span regs n need e p from count (i p) (j regs p)

-- those on blocks are users'
pub block-user : (operation : ℕ) → is_block operation ≡ true → class_of operation ≡ User
unfolding is_block class_of privileged_operations
block-user operation h =
    let f : (k : ℕ) → is_block k ≡ false → eqb operation k ≡ false = λ k i. apart operation k (λ e. false≢true (sym i ∙ sym e ∙ h)) in
    rw (f 30 refl, f 1 refl, f 35 refl) refl

-- whether each rule has at most three
abbrev few : List (ℕ × ℕ) → Bool
few [] = true
few (r ∷ rs) = leb r.1 3 && few rs

select-few : (k : ℕ) (rs : List (ℕ × ℕ)) → few rs ≡ true → select k rs 0 ≤ 3
select-few k [] h = omega arith
select-few k (r ∷ rs) h = let u = tests.both (leb r.1 3) (few rs) h in by (eqb k r.0) (leb-true r.1 3 u.0) (select-few k rs u.1)
  where
    by : (b : Bool) → r.1 ≤ 3 → select k rs 0 ≤ 3 → cond b r.1 (select k rs 0) ≤ 3
    by true p q = p
    by false p q = q

written-few : (k : ℕ) → words_written k ≤ 3
unfolding words_written
written-few k =
    select-few k
    ((3, 1) ∷ (4, 1) ∷ (6, 1) ∷
    (45, 1) ∷ (46, 1) ∷ (48, 2) ∷ (49, 1) ∷ (51, 3) ∷ (52, 1) ∷ (53, 1) ∷
    (56, 1) ∷ (64, 1) ∷
    [])
    refl

module _ (v : Context) (n : Instruction) (h : is_block (operation_of n.form) ≡ false) where
  -- it sees the first three words alone
  ordinary-executed : (ws : List ℕ) → ordinary v n (get_or ws 0 0) (get_or ws 1 0) (get_or ws 2 0) (operation_of n.form) ≡ executed v n ws
  unfolding executed is_block
  ordinary-executed ws =
      let f : (k : ℕ) → is_block k ≡ true → eqb (operation_of n.form) k ≡ false = λ k i. differs (operation_of n.form) k h i in
      rw (f 40 refl, f 44 refl, f 47 refl, f 50 refl, f 54 refl, f 90 refl) refl

-- it writes at most three words
pub few-written : (regs : List ℕ) (n : Instruction) → is_block (operation_of n.form) ≡ false → (writes_of regs n).count ≤ 3
unfolding writes_of is_block at_operand
few-written regs n h =
    let f : (k : ℕ) → is_block k ≡ true → eqb (operation_of n.form) k ≡ false = λ k i. differs (operation_of n.form) k h i in
    rw (f 47 refl, f 50 refl, f 54 refl) (by (eqb (operation_of n.form) 36) (in_memory (mode_of n.form)) (wrapped (register regs (field_a n.first) + 65535)))
  where
    by : (t u : Bool) (a : ℕ) → (cond {A = Span} t (span_from a 1) (span_from n.address (cond u (words_written (operation_of n.form)) 0))).count ≤ 3
    by true u a = omega arith
    by false true a = written-few (operation_of n.form)
    by false false a = omega arith

pub worked-ordinary : (p : Processor) (m g : List ℕ) (n : Instruction) (ws : List ℕ) (x y z : ℕ) (to : Span) (t : Processor) (w : List ℕ)
    → is_block (operation_of n.form) ≡ false → FirstThree ws x y z → to ≡ writes_of p.regs n
    → t ≡ affected p (ordinary (context_of p) n x y z (operation_of n.form))
    → w ≡ stored p.core m g (ordinary (context_of p) n x y z (operation_of n.form)) to
    → Worked p m g n (executed (context_of p) n ws) t w
worked-ordinary p m g n ws x y z to t w h e j q r =
    let d : ordinary (context_of p) n x y z (operation_of n.form) ≡ executed (context_of p) n ws =
    rw (e.first-is, e.second_is, e.third-is) (ordinary-executed (context_of p) n h ws) in
    record { processor-is = q ∙ ap (affected p) d; memory-is = r ∙ ap (λ k. stored p.core m g k to) d ∙ ap (stored p.core m g (executed (context_of p) n ws)) j }

-- in the state s
pub became-worked : (s : State) (m g o : List ℕ) (i : Instruction) (e : Effect) (t : Processor) (w : List ℕ)
    → Worked (processor s) m g i e t w → Became (perform s m g o (affect e (writes_of s.regs i))) (with_processor s t) w g o
unfolding perform
became-worked s m g o i e t w b = record { state-is = ap (with_processor s) b.processor-is; memory-is = b.memory-is; pages-is = refl; ports-is = refl }
