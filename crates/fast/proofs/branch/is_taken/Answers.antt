-- The answers to the goals of `fast::branch::is_taken`. Assumes nothing.
use Rattle.fast_accumulate.specs.Paths.{is_taken}
use Rattle.std.proofs.Common.{eq-eqb, ne_eqb}
use Rattle.fast.proofs.branch.is_taken.Goals as goal

pub returns-then-operation-eq24 : goal.returns-then-operation-eq24
unfolding is_taken
returns-then-operation-eq24 c = rw (eq-eqb _ _ c.if-operation-eq24.true, ← c.field_a.ensures.0) c.taken.ensures

pub returns : goal.returns
unfolding is_taken
returns c = rw (ne_eqb _ _ c.if-operation-eq24.false) c.branches.ensures
