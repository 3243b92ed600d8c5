-- The answers to the goals of `block_words::stores::store_words`. Assumes nothing.
use Prim.Native.Nat.{◌%◌}
use Rattle.block_registers.proofs.BlockLaws.{operand-unwritten}
use Rattle.block_registers.specs.Operation.{is_block}
use Rattle.isa.specs.Accesses.{words_written, writes_of}
use Rattle.std.proofs.Common.{ℕ, ◌≡◌, ◌⊎◌, ⊎_elim, true, arith}
use Rattle.std.proofs.lemmas.Bool.Decides.{nat_tests}
use Rattle.block_words.proofs.stores.store_words.Goals as goal

-- LM, POPM and XWR are the ones that store nothing
storeless : (k : ℕ) → is_block k ≡ true → (k ≡ 47 → ⊥) → (k ≡ 50 → ⊥) → (k ≡ 54 → ⊥) → (k ≡ 40) ⊎ ((k ≡ 44) ⊎ (k ≡ 90))
unfolding is_block
storeless k h a b d = grind (arith, nat_tests)

pub returns-in_default : goal.returns-in_default
unfolding writes_of words_written
returns-in_default c = λ v e.
    ⊎_elim (λ i. rw i (operand-unwritten _ _ _ _ _ _ _)) (⊎_elim (λ i. rw i (operand-unwritten _ _ _ _ _ _ _)) (λ i. rw i (operand-unwritten _ _ _ _ _ _ _)))
    (storeless (c.args.n.form % 256) c.requires.1 (λ q. omega arith) (λ q. omega arith) (λ q. omega arith))
