-- The answers to the goals of `form_table::read_count`. Assumes nothing.
use Rattle.form_table.proofs.NumberLaws.{reads-counted, first_count}
use borrow.Author.Rules.{rules}
use native.Mathlib.Omega.{arith}
use Rattle.form_table.proofs.read_count.Goals as goal

pub returns : goal.returns
returns c = (λ regs p. reads-counted regs c.args.n c.args.number c.requires (search rules) p, omega arith, first_count c.args.n.form c.args.number c.requires (search rules))
