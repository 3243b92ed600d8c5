-- The answers to the goals of `execute_words::loads::load_operation`. Assumes nothing.
use Rattle.std.proofs.Common.{◌%◌, [], ◌∷◌, sym, ◌∙◌, arith}
use Rattle.choice.proofs.SelectLaws.{otherwise}
use Rattle.isa.specs.Words.{load_operation}
use Rattle.execute_words.proofs.loads.load_operation.Goals as goal

pub returns-in-41 : goal.returns-in-41
unfolding load_operation
returns-in-41 c = rw (c.in-41.is, ← c.field_a-a.ensures.0, ← c.mantissa40.ensures, ← c.status.ensures) (c.into_registers.ensures _ _)

pub returns-in-42 : goal.returns-in-42
unfolding load_operation
returns-in-42 c = rw (c.in-42.is, ← c.field_a-a.ensures.0, ← c.get.ensures, ← c.operand_of.ensures, ← c.load_upper.ensures) (c.single.ensures _ _)

pub returns-in-43 : goal.returns-in-43
unfolding load_operation
returns-in-43 c = rw (c.in-43.is, ← c.field_a-a.ensures.0, ← c.get-in-43.ensures, ← c.operand_of-in-43.ensures, ← c.load_lower.ensures) (c.single-in-43.ensures _ _)

pub returns-in_default : goal.returns-in_default
unfolding load_operation
returns-in_default c = c.nothing.ensures _ ∙ sym (otherwise (c.args.before.n.form % 256) ((38, _) ∷ (39, _) ∷ (41, _) ∷ (42, _) ∷ (43, _) ∷ []) _ (((((tt, c.requires.0), c.requires.1), λ e. omega arith), λ e. omega arith), λ e. omega arith))
