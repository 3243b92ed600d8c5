-- The answers to the goals of `form_table::read_start`. Assumes nothing.
use Rattle.form_table.proofs.NeedsLaws.{register-read, operand_read, reading-known, reading-other}
use Rattle.form_table.proofs.NumberLaws.{number_read}
use Rattle.form_table.specs.FormNumbers.{read_start}
use borrow.Author.Rules.{rules}
use mathlib.Core.Path.{refl, sym, ◌∙◌}
use Rattle.form_table.proofs.read_start.Goals as goal

pub returns-then-number-eq1 : goal.returns-then-number-eq1
unfolding read_start
returns-then-number-eq1 c = (λ p. rw (register-read c.args.regs.now c.args.n _ refl p (sym (number_read c.args.n.form c.args.number c.requires (search rules)) ∙ c.if-number-eq1.true), ← c.field_a.ensures.0) c.get.ensures, rw (reading-known c.args.n.form (sym (number_read c.args.n.form c.args.number c.requires (search rules)) ∙ c.if-number-eq1.true), ← c.field_a.ensures.0) c.get.ensures)

pub returns : goal.returns
unfolding read_start
returns c = (λ p. rw (operand_read c.args.regs.now c.args.n _ refl p (λ z. c.if-number-eq1.false (number_read c.args.n.form c.args.number c.requires (search rules) ∙ z))) refl, rw (reading-other c.args.n.form (λ z. c.if-number-eq1.false (number_read c.args.n.form c.args.number c.requires (search rules) ∙ z))) refl)
