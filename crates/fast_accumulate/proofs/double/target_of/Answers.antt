-- The answers to the goals of `fast_accumulate::double::target_of`. Assumes nothing.
use Rattle.fast_accumulate.specs.Paths.{target}
use borrow.Author.Tests.{eq-eqb, ne_eqb}
use Rattle.fast_accumulate.proofs.double.target_of.Goals as goal

pub returns-then-n-eq39 : goal.returns-then-n-eq39
unfolding target
returns-then-n-eq39 c = (rw (eq-eqb _ _ c.if-n-eq39.true) c.accumulator_of.ensures.0, c.accumulator_of.ensures.1)

pub returns : goal.returns
unfolding target
returns c = (rw (ne_eqb _ _ c.if-n-eq39.false) c.field_a.ensures.0, c.field_a.ensures.1)
