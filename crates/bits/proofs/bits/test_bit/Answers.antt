-- The answers to the goals of `bits::bits::test_bit`. Assumes nothing.
use Rattle.bits.proofs.BitLaws.{zero-tested, first-tested, other-tested}
use Rattle.bits.proofs.bits.test_bit.Goals as goal

pub returns-then-word-weight_of-eq0 : goal.returns-then-word-weight_of-eq0
returns-then-word-weight_of-eq0 c = zero-tested _ _ (rw c.weight_of.ensures at c.if-word-weight_of-eq0.true)

pub returns-then-n-eq0 : goal.returns-then-n-eq0
returns-then-n-eq0 c = first-tested _ _ (rw c.weight_of.ensures at c.if-word-weight_of-eq0.false) c.if-n-eq0.true

pub returns-else-n-eq0 : goal.returns-else-n-eq0
returns-else-n-eq0 c = other-tested _ _ (rw c.weight_of.ensures at c.if-word-weight_of-eq0.false) c.if-n-eq0.false
