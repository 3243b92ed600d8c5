-- The answers to the goals of `machine::whole_pages`. Assumes nothing.
use Rattle.std.proofs.Common.{arith}
use Rattle.std.proofs.lemmas.Grind.{common_steps}
use Rattle.machine.specs.Runs.{whole_pages}
use Rattle.machine.proofs.whole_pages.Goals as goal

pub returns-then-memory-ge4096 : goal.returns-then-memory-ge4096
unfolding whole_pages
returns-then-memory-ge4096 c = grind (arith, common_steps)

pub returns-else-memory-ge4096 : goal.returns-else-memory-ge4096
unfolding whole_pages
returns-else-memory-ge4096 c = grind (arith, common_steps)
