-- The operations that are no user's, by their paths: XIO, BEX and LST from their accesses on. Assumes nothing.
use Rattle.std.proofs.Common.{Ok, Result, Err}
use Prim.Native.Nat.{ℕ, ◌+◌, ◌%◌}
use mathlib.Core.Path.{◌≡◌, refl, sym, ap, ◌∙◌}
use mathlib.Core.Bool.{true, false, cond}
use mathlib.Core.List.{List}
use native.Mathlib.Omega.{arith}
use lib.Dec.{eqb}
use lib.ListN.{length}
use Rattle.page.specs.declared.Refusal.{Refusal}
use Rattle.page.specs.declared.Access.TheVariants.{Read, Write}
use Rattle.page.specs.Spans.{wrapped, checked, words_of}
use Rattle.decode.specs.Forms.{length_of, mode_of, operation_of, privileged_operations}
use Rattle.machine.specs.declared.State.{State}
use Rattle.machine.specs.declared.Core.{Core}
use Rattle.machine.specs.declared.Instruction.{Instruction}
use Rattle.machine.specs.declared.Class.TheVariants.{Supervisor}
use Rattle.machine.specs.State.{key_of, group_of, with_core}
use Rattle.machine.specs.Machine.{Became, span_from}
use Rattle.machine.specs.Instructions.{Action, fail, call, govern, view, both, supervised, operated, carried}
use Rattle.machine.specs.Step.{perform}
use Rattle.isa.specs.Addressing.{in_memory}
use Rattle.isa.specs.Accesses.{at_operand, reads_of, writes_of}
use Rattle.isa.specs.Commands.{becomes, status_loaded, supervised_by, transferred}
use Rattle.isa.specs.Mil1750.{class_of, mil1750}
use Rattle.form_table.specs.FormNumbers.{path_of}
use Rattle.operand_words.specs.declared.Words.{Words}
use Rattle.operand_words.specs.Gathers.{gathered}
use Rattle.fast_accumulate.proofs.PathLaws.{path-system, path-reads, path-writes}
use Rattle.fast_accumulate.proofs.EndLaws.{none-checked}
use Rattle.instruction_retired.proofs.ActLaws.{carried-clear, words-read, carried-read, carried-denied, accessed-clear}

module _ (s : State) (m g o : List ℕ) (n : Instruction) where
  -- what it does where its accesses are open
  abbrev does : Action
  does = operated mil1750 s g o (class_of (operation_of n.form)) n (words_of (key_of s.core.sw) (group_of s.core.sw) g (length m) (reads_of s.regs n) m)

  -- no word is read and none written
  unasked : reads_of s.regs n ≡ span_from n.address (cond (in_memory (mode_of n.form)) 0 0)
      → writes_of s.regs n ≡ span_from n.address (cond (in_memory (mode_of n.form)) 0 0) → does ≡ carried mil1750 s g o (view s.core m g) (Ok n)
  unfolding both
  unasked i j =
      let none = none-checked (key_of s.core.sw) (group_of s.core.sw) g (length m) n.address in
      carried-clear s m g o n _ _ _ refl refl refl (rw (i, j, none Read (in_memory (mode_of n.form)), none Write (in_memory (mode_of n.form))) refl)

  pub xio-carried : path_of (operation_of n.form) ≡ 6 → supervised n (transferred s g o n) ≡ carried mil1750 s g o (view s.core m g) (Ok n)
  unfolding operated mil1750 class_of privileged_operations supervised_by
  xio-carried e =
      let p = path-system n 6 e (omega arith) in
      let c : class_of (operation_of n.form) ≡ Supervisor = ap class_of p in
      let b : eqb (operation_of n.form) 35 ≡ false = ap (λ (j : ℕ). eqb j 35) p in
      let k : supervised n (transferred s g o n) ≡ does = rw (c, b) refl in
      k ∙ unasked (path-reads n 6 0 0 e (omega arith) refl refl refl refl refl s.regs) (path-writes n 6 0 0 e (omega arith) refl refl refl refl refl s.regs)

  pub bex-carried : path_of (operation_of n.form) ≡ 7 → call (n.first % 16) ≡ carried mil1750 s g o (view s.core m g) (Ok n)
  unfolding operated mil1750 class_of privileged_operations
  bex-carried e =
      let k : call (n.first % 16) ≡ does = rw (path-system n 7 e (omega arith)) refl in
      k ∙ unasked (path-reads n 7 0 0 e (omega arith) refl refl refl refl refl s.regs) (path-writes n 7 0 0 e (omega arith) refl refl refl refl refl s.regs)

-- LST: its three words are read, as v
module _ (s : State) (m g o : List ℕ) (n : Instruction) (e : path_of (operation_of n.form) ≡ 8) (key group : ℕ) (d : key ≡ key_of s.core.sw) (f : group ≡ group_of s.core.sw) (v : Result Words Refusal)
    (i : v ≡ gathered (checked key group g (length m) (at_operand n 3) Read) (words_of key group g (length m) (at_operand n 3) m)) where
  reads : span_from n.address (cond (in_memory (mode_of n.form)) 3 0) ≡ reads_of s.regs n
  reads = sym (path-reads n 8 3 0 e (omega arith) refl refl refl refl refl s.regs)

  unwritten : checked (key_of s.core.sw) (group_of s.core.sw) g (length m) (writes_of s.regs n) Write ≡ Ok tt
  unwritten =
      rw (path-writes n 8 3 0 e (omega arith) refl refl refl refl refl s.regs)
      (none-checked (key_of s.core.sw) (group_of s.core.sw) g (length m) n.address Write (in_memory (mode_of n.form)))

  pub lst-denied : (b : Refusal) → v ≡ Err b → fail b (wrapped (n.ic + length_of n.form)) ≡ carried mil1750 s g o (view s.core m g) (Ok n)
  unfolding at_operand
  lst-denied b h = carried-denied s m g n key group d f _ _ v reads i o b h

  pub lst-carried : (y : Words) → v ≡ Ok y
      → govern (record { state = with_core s (status_loaded s.core y.x y.y y.z); pages = g; ports = o }) ≡ carried mil1750 s g o (view s.core m g) (Ok n)
  unfolding at_operand operated mil1750 class_of privileged_operations supervised_by becomes supervised
  lst-carried y h =
      let w = words-read s m g n key group d f _ _ v reads i y h in
      let p = path-system n 8 e (omega arith) in
      let c : class_of (operation_of n.form) ≡ Supervisor = ap class_of p in
      let b : eqb (operation_of n.form) 35 ≡ true = ap (λ (j : ℕ). eqb j 35) p in
      let k : govern (record { state = with_core s (status_loaded s.core y.x y.y y.z); pages = g; ports = o }) ≡ does s m g o n =
      rw (c, b, w.first-is, w.second_is, w.third-is) refl in
      k ∙ accessed-clear s m g o n _ _ _ _ refl refl refl refl unwritten ∙ carried-read s m g n key group d f _ _ v reads i o y h

pub lst-became : (s : State) (d : Core) (m g o : List ℕ) (x y z : ℕ) → d ≡ status_loaded s.core x y z
    → Became (perform s m g o (govern (record { state = with_core s (status_loaded s.core x y z); pages = g; ports = o }))) (with_core s d) m g o
unfolding perform
lst-became s d m g o x y z h = record { state-is = ap (with_core s) h; memory-is = refl; pages-is = refl; ports-is = refl }
