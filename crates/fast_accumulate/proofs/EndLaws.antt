-- How an instruction ends with a fast path: from the verdict on its words, and from what its operation does. Assumes nothing.
use Rattle.std.proofs.Common.{Result, Ok, Err}
use Prim.Native.Nat.{ℕ, ◌+◌}
use mathlib.Core.Path.{subst, ◌≡◌, refl, sym, ap, ◌∙◌}
use mathlib.Core.Bool.{Bool, true, false, cond}
use mathlib.Core.List.{List}
use lib.Bits.{bit_or}
use lib.ListN.{length, set}
use Rattle.page.specs.declared.Refusal.{Refusal}
use Rattle.page.specs.declared.Access.{Access}
use Rattle.page.specs.declared.Access.TheVariants.{Read, Write}
use Rattle.page.specs.Pages.{lookup}
use Rattle.page.specs.Spans.{wrapped, put_at, and_then, passed, checked_from, checked, words_of, written_from, written}
use Rattle.word.specs.Pair.{high_word, low_word}
use Rattle.fixed_add.specs.declared.Outcome.{Outcome}
use Rattle.decode.specs.Forms.{mode_of, operation_of}
use Rattle.machine.specs.declared.Core.{Core}
use Rattle.machine.specs.declared.Instruction.{Instruction}
use Rattle.machine.specs.declared.Class.TheVariants.{User}
use Rattle.machine.specs.State.{Processor, key_of, group_of, joined}
use Rattle.machine.specs.Machine.{Effect, span_from, next_of}
use Rattle.machine.specs.Instructions.{both}
use Rattle.machine.specs.Step.{affected, stored}
use Rattle.isa.specs.Addressing.{in_memory}
use Rattle.isa.specs.Accesses.{reads_of, writes_of}
use Rattle.isa.specs.Fields.{with_register, with_registers}
use Rattle.isa.specs.Effects.{fixed_overflow, three, effect, into_registers}
use Rattle.isa.specs.Integers.{single_outcome, double_outcome}
use Rattle.isa.specs.Execute.{executed}
use Rattle.isa.specs.Mil1750.{class_of, context_of}
use Rattle.operand_words.specs.declared.Words.{Words}
use Rattle.operand_words.specs.Gathers.{FirstThree, gathered}
use Rattle.operand_words.proofs.GatherLaws.{ok-same, err-same, ok-not_err, all-gathered, denied-gathered}
use Rattle.block_registers.specs.Operation.{verdict, operand_words, Finished}
use Rattle.fast_accumulate.specs.declared.Ending.{Ending}
use Rattle.fast_accumulate.specs.Ended.{Ended, ended_core}

-- ---- registers and core after an outcome

-- r is a core whose IC and CS are set, and to whose PI bits are added
module _ (c r : Core) (regs : List ℕ) (n : Instruction) (k ic cs bits : ℕ) (o : Outcome ℕ)
    (f : (x : List ℕ) (e : Effect) → e.ic ≡ ic → e.cs ≡ cs → e.pi ≡ bit_or c.pi bits → joined r e.regs ≡ affected (joined c x) e)
    (i : ic ≡ next_of n) (j : cs ≡ o.cs) (b : bits ≡ fixed_overflow o.overflow) where
  pub single-after : (after : List ℕ) → after ≡ with_register regs k o.value → joined r after ≡ affected (joined c regs) (single_outcome (context_of (joined c regs)) n k o)
  unfolding single_outcome into_registers effect with_registers context_of
  single-after after h = rw h (f regs (single_outcome (context_of (joined c regs)) n k o) (sym i) (sym j) (ap (bit_or c.pi) (sym b)))

  pub double-after : (after : List ℕ) → after ≡ with_register (with_register regs k (high_word o.value)) (k + 1) (low_word o.value)
      → joined r after ≡ affected (joined c regs) (double_outcome (context_of (joined c regs)) n k o)
  unfolding double_outcome into_registers effect with_registers context_of
  double-after after h = rw h (f regs (double_outcome (context_of (joined c regs)) n k o) (sym i) (sym j) (ap (bit_or c.pi) (sym b)))

-- ---- a span of no words, of one, and of two

module _ (key group : ℕ) (g : List ℕ) (size a : ℕ) where
  pub none-checked : (k : Access) (b : Bool) → checked key group g size (span_from a (cond b 0 0)) k ≡ Ok tt
  unfolding checked checked_from
  none-checked k true = refl
  none-checked k false = refl

  pub none_written : (ws m : List ℕ) (b : Bool) → written key group g size (span_from a (cond b 0 0)) ws m ≡ m
  unfolding written written_from
  none_written ws m true = refl
  none_written ws m false = refl

  pub one-checked : (k : Access) → checked key group g size (span_from a 1) k ≡ and_then (lookup k key group g size a) (Ok tt)
  unfolding checked checked_from passed
  one-checked k = refl

  pub one_written : (x : ℕ) (m : List ℕ) → written key group g size (span_from a 1) (three x 0 0) m ≡ put_at m (lookup Write key group g size a) x
  unfolding written written_from passed
  one_written x m = refl

  pub two-checked : (k : Access) → checked key group g size (span_from a 2) k ≡ and_then (lookup k key group g size a) (and_then (lookup k key group g size (wrapped (a + 1))) (Ok tt))
  unfolding checked checked_from passed
  two-checked k = refl

  pub two-written : (x y : ℕ) (m : List ℕ)
      → written key group g size (span_from a 2) (three x y 0) m ≡ put_at (put_at m (lookup Write key group g size a) x) (lookup Write key group g size (wrapped (a + 1))) y
  unfolding written written_from passed
  two-written x y m = refl

-- ---- the end of an instruction, from the verdicts on the words that it reads and on those that it writes

module _ (s : Processor) (m g : List ℕ) (n : Instruction) (user : class_of (operation_of n.form) ≡ User) where
  abbrev reading : Result (Unit {0}) Refusal
  reading = checked (key_of s.core.sw) (group_of s.core.sw) g (length m) (reads_of s.regs n) Read

  abbrev writing : Result (Unit {0}) Refusal
  writing = checked (key_of s.core.sw) (group_of s.core.sw) g (length m) (writes_of s.regs n) Write

  pub ended-clear : (e : Effect) (x : Ending) (r : Result Ending Refusal) (after w : List ℕ) → reading ≡ Ok tt → writing ≡ Ok tt
      → executed (context_of s) n (operand_words s m g n) ≡ e → r ≡ Ok x → joined (ended_core s.core x) after ≡ affected s e → w ≡ stored s.core m g e (writes_of s.regs n) → Ended s m g n r after w
  unfolding both
  ended-clear e x r after w p q d h i j = record {
    by-user = user;
    when-done = λ y k. subst (λ z. Finished s m g n (joined (ended_core s.core z) after) w) (ok-same h k) (record { admitted = rw (p, q) refl; worked = rw d (record { processor-is = i; memory-is = j }) });
    when-refused = λ b k. absurd (ok-not_err h k);
  }

  pub ended-refused : (r : Result Ending Refusal) (after : List ℕ) (b : Refusal) → verdict s m g n ≡ Err b → r ≡ Err b → after ≡ s.regs → Ended s m g n r after m
  ended-refused r after b p h i = record {
    by-user = user;
    when-done = λ y k. absurd (ok-not_err k h);
    when-refused = λ d k. (p ∙ ap Err (err-same h k), i, refl);
  }

  -- ---- k words are read and none is written

  module _ (key group k : ℕ) (d : key ≡ key_of s.core.sw) (e : group ≡ group_of s.core.sw)
      (reads : reads_of s.regs n ≡ span_from n.address (cond (in_memory (mode_of n.form)) k 0))
      (writes : writes_of s.regs n ≡ span_from n.address (cond (in_memory (mode_of n.form)) 0 0))
      (v : Result Words Refusal)
      (i : v ≡ gathered (checked key group g (length m) (span_from n.address (cond (in_memory (mode_of n.form)) k 0)) Read)
      (words_of key group g (length m) (span_from n.address (cond (in_memory (mode_of n.form)) k 0)) m)) where
    gathers : v ≡ gathered reading (operand_words s m g n)
    gathers = rw (reads, ← d, ← e) i

    unwritten : writing ≡ Ok tt
    unwritten = rw writes (none-checked (key_of s.core.sw) (group_of s.core.sw) g (length m) n.address Write (in_memory (mode_of n.form)))

    pub words-first : (y : Words) → v ≡ Ok y → FirstThree (operand_words s m g n) y.x y.y y.z
    words-first y h = (all-gathered _ _ y (sym gathers ∙ h)).1

    pub read_done : (f : Effect) (x : Ending) (r : Result Ending Refusal) (after : List ℕ) (y : Words) → v ≡ Ok y → executed (context_of s) n (operand_words s m g n) ≡ f → r ≡ Ok x
        → joined (ended_core s.core x) after ≡ affected s f → Ended s m g n r after m
    unfolding stored
    read_done f x r after y h d k j =
        ended-clear f x r after m (all-gathered _ _ y (sym gathers ∙ h)).0 unwritten d k j
        (rw writes (sym (none_written (key_of s.core.sw) (group_of s.core.sw) g (length m) n.address f.words m (in_memory (mode_of n.form)))))

    pub read-refused : (r : Result Ending Refusal) (after : List ℕ) (b : Refusal) → v ≡ Err b → r ≡ Err b → after ≡ s.regs → Ended s m g n r after m
    unfolding both
    read-refused r after b h k j = ended-refused r after b (rw (denied-gathered _ _ b (sym gathers ∙ h)) refl) k j

  -- ---- none is read; one or two are written, where the operand is in memory

  module _ (reads : reads_of s.regs n ≡ span_from n.address (cond (in_memory (mode_of n.form)) 0 0)) where
    unread : reading ≡ Ok tt
    unread = rw reads (none-checked (key_of s.core.sw) (group_of s.core.sw) g (length m) n.address Read (in_memory (mode_of n.form)))

    pub idle-done : (b : Bool) → writes_of s.regs n ≡ span_from n.address (cond b 0 0)
        → (f : Effect) (x : Ending) (r : Result Ending Refusal) (after : List ℕ) → executed (context_of s) n (operand_words s m g n) ≡ f → r ≡ Ok x → joined (ended_core s.core x) after ≡ affected s f → Ended s m g n r after m
    unfolding stored
    idle-done b writes f x r after d k j =
        ended-clear f x r after m unread (rw writes (none-checked (key_of s.core.sw) (group_of s.core.sw) g (length m) n.address Write b)) d k j
        (rw writes (sym (none_written (key_of s.core.sw) (group_of s.core.sw) g (length m) n.address f.words m b)))

    module _ (key group : ℕ) (d : key ≡ key_of s.core.sw) (e : group ≡ group_of s.core.sw) (writes : writes_of s.regs n ≡ span_from n.address 1) (q : Result ℕ Refusal)
        (i : q ≡ lookup Write key group g (length m) n.address) where
      looked : lookup Write (key_of s.core.sw) (group_of s.core.sw) g (length m) n.address ≡ q
      looked = rw (← d, ← e) (sym i)

      placed : writing ≡ and_then q (Ok tt)
      placed = rw (writes, ← looked) (one-checked (key_of s.core.sw) (group_of s.core.sw) g (length m) n.address Write)

      pub store-done : (p v : ℕ) (f : Effect) (x : Ending) (r : Result Ending Refusal) (after : List ℕ) → q ≡ Ok p → f.words ≡ three v 0 0
          → executed (context_of s) n (operand_words s m g n) ≡ f → r ≡ Ok x → joined (ended_core s.core x) after ≡ affected s f → Ended s m g n r after (set m p v)
      unfolding stored and_then put_at
      store-done p v f x r after h y z k j =
          ended-clear f x r after (set m p v) unread (placed ∙ ap (λ (u : Result ℕ Refusal). and_then u (Ok tt)) h) z k j
          (rw (writes, y) (sym (one_written (key_of s.core.sw) (group_of s.core.sw) g (length m) n.address v m ∙ ap (λ (u : Result ℕ Refusal). put_at m u v) (looked ∙ h))))

      pub store-refused : (b : Refusal) (r : Result Ending Refusal) (after : List ℕ) → q ≡ Err b → r ≡ Err b → after ≡ s.regs → Ended s m g n r after m
      unfolding both and_then
      store-refused b r after h k j =
          ended-refused r after b (rw (unread, placed, h) refl) k j

    -- two
    module _ (key group : ℕ) (d : key ≡ key_of s.core.sw) (e : group ≡ group_of s.core.sw) (writes : writes_of s.regs n ≡ span_from n.address 2) where
      abbrev at : ℕ → Result ℕ Refusal
      at a = lookup Write key group g (length m) a

      both-placed : writing ≡ and_then (at n.address) (and_then (at (wrapped (n.address + 1))) (Ok tt))
      both-placed = rw (writes, ← d, ← e) (two-checked key group g (length m) n.address Write)

      pub pair-done : (p q v z : ℕ) (f : Effect) (x : Ending) (r : Result Ending Refusal) (after : List ℕ) → at n.address ≡ Ok p → at (wrapped (n.address + 1)) ≡ Ok q → f.words ≡ three v z 0
          → executed (context_of s) n (operand_words s m g n) ≡ f → r ≡ Ok x → joined (ended_core s.core x) after ≡ affected s f → Ended s m g n r after (set (set m p v) q z)
      unfolding stored and_then put_at
      pair-done p q v z f x r after h i k y l j =
          ended-clear f x r after (set (set m p v) q z) unread (both-placed ∙ rw (h, i) refl) y l j
          (rw (writes, k, ← d, ← e) (sym (two-written key group g (length m) n.address v z m ∙ rw (h, i) refl)))

      pub pair-refused : (b : Refusal) (r : Result Ending Refusal) (after : List ℕ) → and_then (at n.address) (and_then (at (wrapped (n.address + 1))) (Ok tt)) ≡ Err b
          → r ≡ Err b → after ≡ s.regs → Ended s m g n r after m
      unfolding both
      pair-refused b r after h k j = ended-refused r after b (rw (unread, both-placed, h) refl) k j
