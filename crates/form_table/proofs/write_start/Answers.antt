-- The answers to the goals of `form_table::write_start`. Assumes nothing.
use Rattle.form_table.proofs.NeedsLaws.{register-written, operand-written, writing-known, writing-other}
use Rattle.form_table.proofs.NumberLaws.{number-written}
use Rattle.form_table.specs.FormNumbers.{write_start}
use borrow.Author.Rules.{rules}
use mathlib.Core.Path.{refl, sym, ◌∙◌}
use Rattle.form_table.proofs.write_start.Goals as goal

pub returns-then-number-eq1 : goal.returns-then-number-eq1
unfolding write_start
returns-then-number-eq1 c = (λ p. rw (register-written c.args.regs.now c.args.n _ refl p (sym (number-written c.args.n.form c.args.number c.requires (search rules)) ∙ c.if-number-eq1.true), ← c.field_a.ensures.0, ← c.get.ensures) c.less.ensures, rw (writing-known c.args.n.form (sym (number-written c.args.n.form c.args.number c.requires (search rules)) ∙ c.if-number-eq1.true), ← c.field_a.ensures.0, ← c.get.ensures) c.less.ensures)

pub returns : goal.returns
unfolding write_start
returns c = (λ p. rw (operand-written c.args.regs.now c.args.n _ refl p (λ z. c.if-number-eq1.false (number-written c.args.n.form c.args.number c.requires (search rules) ∙ z))) refl, rw (writing-other c.args.n.form (λ z. c.if-number-eq1.false (number-written c.args.n.form c.args.number c.requires (search rules) ∙ z))) refl)
