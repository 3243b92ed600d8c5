-- The answers to the goals of `operand_spans::moved_span`. Assumes nothing.
use Rattle.isa.specs.Accesses.{moved_span}
use borrow.Author.Rules.{rules}
use borrow.Author.Tests.{eq-eqb, ne_eqb}
use Rattle.operand_spans.proofs.moved_span.Goals as goal

pub returns-then-get-eq0 : goal.returns-then-get-eq0
unfolding moved_span
returns-then-get-eq0 c = (rw (← c.field_a.ensures.0, ← c.get.ensures, eq-eqb _ _ c.if-get-eq0.true, ← c.get-then-get-eq0.ensures) c.span_from.ensures, rw c.span_from.ensures (search rules))

pub returns : goal.returns
unfolding moved_span
returns c = (rw (← c.field_a.ensures.0, ← c.get.ensures, ne_eqb _ _ c.if-get-eq0.false, ← c.get-2.ensures) c.span_from-2.ensures, rw c.span_from-2.ensures (search rules))
