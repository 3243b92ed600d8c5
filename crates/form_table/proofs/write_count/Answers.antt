-- The answers to the goals of `form_table::write_count`. Assumes nothing.
use Rattle.form_table.proofs.NumberLaws.{writes-counted, second-count}
use borrow.Author.Rules.{rules}
use native.Mathlib.Omega.{arith}
use Rattle.form_table.proofs.write_count.Goals as goal

pub returns : goal.returns
returns c = (λ regs p. writes-counted regs c.args.n c.args.number c.requires (search rules) p, omega arith, second-count c.args.n.form c.args.number c.requires (search rules))
