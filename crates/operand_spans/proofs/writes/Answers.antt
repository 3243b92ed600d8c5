-- The answers to the goals of `operand_spans::writes`. Assumes nothing.
use Rattle.form_table.proofs.NeedsLaws.{block-writes-none}
use Rattle.isa.specs.Accesses.{writes_of}
use borrow.Author.Tests.{ne_eqb}
use mathlib.Core.Path.{◌∙◌}
use native.Mathlib.Omega.{arith}
use Rattle.operand_spans.proofs.writes.Goals as goal

pub returns-in-47 : goal.returns-in-47
unfolding writes_of
returns-in-47 c = (rw (c.in-47.is, ← c.field_a.ensures.0) c.moved_span.ensures.0, c.moved_span.ensures.1)

pub returns-in-50 : goal.returns-in-50
unfolding writes_of
returns-in-50 c = (rw c.in-50.is c.all_from.ensures.0, c.all_from.ensures.1)

pub returns-in-54 : goal.returns-in-54
unfolding writes_of
returns-in-54 c = (rw c.in-54.is c.pushed_span.ensures.0, c.pushed_span.ensures.1)

pub returns-in_default : goal.returns-in_default
unfolding writes_of
returns-in_default c = (c.span_from.ensures ∙ block-writes-none c.args.regs.now c.args.n c.requires (ne_eqb _ _ c.in_default.in_default-own.rest.0.0.1) (ne_eqb _ _ c.in_default.in_default-own.rest.0.1) (ne_eqb _ _ c.in_default.in_default-own.rest.1), rw c.span_from.ensures (omega arith))
