-- The answers to the goals of `execute_words::stores::store_operation`. Assumes nothing.
use Rattle.std.proofs.Common.{◌%◌, [], ◌∷◌, sym, ◌∙◌, arith}
use Rattle.choice.proofs.SelectLaws.{otherwise}
use Rattle.isa.specs.Words.{store_operation}
use Rattle.execute_words.proofs.stores.store_operation.Goals as goal

pub returns-in-49 : goal.returns-in-49
unfolding store_operation
returns-in-49 c = rw (c.in-49.is, ← c.field_a-a.ensures.0, ← c.get.ensures, ← c.get-in-49.ensures, ← c.store_masked.ensures) (c.stored.ensures _)

pub returns-in-51 : goal.returns-in-51
unfolding store_operation
returns-in-51 c = rw (c.in-51.is, ← c.field_a-a.ensures.0, ← c.get-in-51.ensures, ← c.get-in-51-2.ensures, ← c.get-in-51-3.ensures) (c.stored-in-51.ensures _)

pub returns-in-52 : goal.returns-in-52
unfolding store_operation
returns-in-52 c = rw (c.in-52.is, ← c.field_a-a.ensures.0, ← c.get-in-52.ensures, ← c.store_upper.ensures) (c.stored-in-52.ensures _)

pub returns-in-53 : goal.returns-in-53
unfolding store_operation
returns-in-53 c = rw (c.in-53.is, ← c.field_a-a.ensures.0, ← c.get-in-53.ensures, ← c.store_lower.ensures) (c.stored-in-53.ensures _)

pub returns-in_default : goal.returns-in_default
unfolding store_operation
returns-in_default c = c.nothing.ensures _ ∙ sym (otherwise (c.args.before.n.form % 256) ((45, _) ∷ (46, _) ∷ (48, _) ∷ (49, _) ∷ (51, _) ∷ (52, _) ∷ (53, _) ∷ []) _ (((((((tt, c.requires.0), c.requires.1), c.requires.2), λ e. omega arith), λ e. omega arith), λ e. omega arith), λ e. omega arith))
