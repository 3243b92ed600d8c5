-- The answers to the goals of `fixed_add::narrow::with_carry`. Assumes nothing.
use Rattle.word.specs.Status.{with_carry}
use Rattle.fixed_add.proofs.narrow.with_carry.Goals as goal

pub returns-then-carry : goal.returns-then-carry
unfolding with_carry
returns-then-carry c = rw c.if-carry.true

pub returns-else-carry : goal.returns-else-carry
unfolding with_carry
returns-else-carry c = rw c.if-carry.false
