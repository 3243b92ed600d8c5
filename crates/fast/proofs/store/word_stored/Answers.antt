-- The answers to the goals of `fast::store::word_stored`. Assumes nothing.
use Rattle.fast_accumulate.specs.Paths.{word_stored}
use Rattle.std.proofs.Common.{eq-eqb, ne_eqb}
use Rattle.fast.proofs.store.word_stored.Goals as goal

pub returns-then-n-eq45 : goal.returns-then-n-eq45
unfolding word_stored
returns-then-n-eq45 c = rw (eq-eqb _ _ c.if-n-eq45.true, ← c.accumulator_of.ensures.0) c.get.ensures

pub returns : goal.returns
unfolding word_stored
returns c = rw (ne_eqb _ _ c.if-n-eq45.false) c.field_a.ensures.0
