-- The answers to the goals of `operand_spans::reads`. Assumes nothing.
use Rattle.form_table.proofs.NeedsLaws.{block-reads-none}
use Rattle.isa.specs.Accesses.{reads_of}
use borrow.Author.Tests.{ne_eqb}
use mathlib.Core.Path.{◌∙◌}
use native.Mathlib.Omega.{arith}
use Rattle.operand_spans.proofs.reads.Goals as goal

pub returns-in-40 : goal.returns-in-40
unfolding reads_of
returns-in-40 c = (rw c.in-40.is c.all_from.ensures.0, c.all_from.ensures.1)

pub returns-in-44 : goal.returns-in-44
unfolding reads_of
returns-in-44 c = (rw c.in-44.is c.popped_span.ensures.0, c.popped_span.ensures.1)

pub returns-in-47 : goal.returns-in-47
unfolding reads_of
returns-in-47 c = (rw (c.in-47.is, ← c.field_b.ensures.0) c.moved_span.ensures.0, c.moved_span.ensures.1)

pub returns-in_default : goal.returns-in_default
unfolding reads_of
returns-in_default c = (c.span_from.ensures ∙ block-reads-none c.args.regs.now c.args.n c.requires (ne_eqb _ _ c.in_default.in_default-own.rest.0.0.1) (ne_eqb _ _ c.in_default.in_default-own.rest.0.1) (ne_eqb _ _ c.in_default.in_default-own.rest.1), rw c.span_from.ensures (omega arith))
