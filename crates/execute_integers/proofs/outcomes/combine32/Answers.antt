-- The answers to the goals of `execute_integers::outcomes::combine32`. Assumes nothing.
use borrow.Author.Tests.{ne_eqb}
use Rattle.execute_integers.proofs.outcomes.combine32.Goals as goal

pub pair_at-p-requires : goal.pair_at-p-requires
pair_at-p-requires c = c.requires

pub returns-in-73 : goal.returns-in-73
returns-in-73 c = rw (c.in-73.is, ← c.pair_at-p.ensures, ← c.double_operand-q.ensures) c.multiply.ensures

pub returns-in_default : goal.returns-in_default
returns-in_default c = rw (ne_eqb _ _ c.in_default.in_default-own.rest.1, ← c.pair_at-p.ensures, ← c.double_operand-q.ensures) c.quotient.ensures
